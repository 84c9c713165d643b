-- How many entries and looks there are, and what the calls of a stylesheet's bodies are.
use Rattle.std.proofs.Common.{◌≡◌, ◌<◌, ◌≤◌, ◌+◌, ◌*◌, ℕ, max, List, [], ◌∷◌, length, map, get_or, Bor, subst, sym, ap, ◌∙◌, refl, arith, All, inl, inr, Result, Ok, Err, IfErr}
use Rattle.std.specs.Prelude.{replicate}
use Rattle.std.specs.Result.{IsErrAnd}
use Rattle.std.proofs.lemmas.List.{length-map}
use Rattle.std.proofs.lemmas.List.Elements.{Contains-get_or}
use Rattle.tc_model.specs.Views as see
use Rattle.tc_model.specs.WellFormed.{IsSheet, IsBody}
use Rattle.tc_model.specs.declared.sheet.Instr.{Instr}
use Rattle.tc_model.specs.declared.sheet.Sheet.{Sheet as SheetOf}
use Rattle.tc_alpha.proofs.Members.{Has, has_from_contains, every_member, every_from_all}
use Rattle.tc_rules.specs.Kept.{told}
use Rattle.tc_rules.specs.RulesView.{RulesView, move_count, select_count}
use Rattle.tc_rules.specs.declared.rules.Rules.{Rules}
use Rattle.tc_rows.specs.Triples.{Triple, sheet, ancestors, moves, looks, entries}
use Rattle.tc_rows.specs.Counts.{PassCalls}
use Rattle.tc_rows.proofs.Reading.{fewer_moves}
use Rattle.tc_beh.specs.Callees.{callees_in, AreCalleesFirst}
use Rattle.tc_beh.specs.Orders.{AreComponentsInOrder}
use Rattle.tc_beh.specs.Heights.{heights_in, highest, highest_rule, deepest, deepest_rule}
use Rattle.tc_beh.specs.Stands.{IsRulesIn}
use Rattle.tc_beh.specs.declared.machine.MachineFault.{MachineFault}
use Rattle.tc_beh.proofs.Limits.{callees_low, too_high, high_enough, not_deep, comes_first}

product_few : (a m : ℕ) → a ≤ 64 → m ≤ 4096 → a * m ≤ 262144
product_few a m h l = grind arith

module _ (x : Triple) (r : Rules) (is : IsRulesIn x r) where
  pub ancestors_few : (n : ℕ) → n ≡ length (told r).ancestors.states → n ≤ 64
  ancestors_few n e = let few = is.rules.tells.few_ancestors in omega (arith, e, few)

  pub moves_few : (n : ℕ) → n ≡ move_count (told r) → n ≤ 4096
  moves_few n e =
      let same : move_count (told r) ≡ moves x = ap move_count is.told in
      let all : select_count (told r) ≡ select_count x.rules = ap select_count is.told in
      let few = is.rules.tells.few_selects in
      omega (arith, e, same, all, few, fewer_moves x is.triple)

  pub entries_few : (a m : ℕ) → a ≡ length (told r).ancestors.states → m ≡ move_count (told r) → a * m ≤ 262144
  entries_few a m e f = product_few a m (ancestors_few a e) (moves_few m f)

  pub entries_are : (a m : ℕ) → a ≡ length (told r).ancestors.states → m ≡ move_count (told r) → a * m ≡ entries x
  entries_are a m e f = ap (λ n. n * m) (e ∙ ap (λ (t : RulesView). length t.ancestors.states) is.told) ∙ ap (λ n. ancestors x * n) (f ∙ ap move_count is.told)

  pub looks_are : (n : ℕ) → n + move_count (told r) ≡ select_count (told r) → n ≡ looks x
  looks_are n e =
      let same : move_count (told r) ≡ moves x = ap move_count is.told in
      let all : select_count (told r) ≡ select_count x.rules = ap select_count is.told in
      omega (arith, e, same, all)

  pub looks_few : (n : ℕ) → n + move_count (told r) ≡ select_count (told r) → n ≤ 4096
  looks_few n e = let few = is.rules.tells.few_selects in omega (arith, e, few)

-- the sheet that rules tell
pub sheet_is : (x : Triple) (r : Rules) (sh : SheetOf) → IsRulesIn x r → see.sheet sh ≡ (told r).sheet → see.sheet sh ≡ sheet x
sheet_is x r sh is e = e ∙ ap (λ (t : RulesView). t.sheet) is.told

map_twice : (bs : List (Bor (List Instr))) → map callees_in (map (λ b. see.body b.now) bs) ≡ map (λ b. callees_in (see.body b.now)) bs
map_twice [] = refl
map_twice (b ∷ bs) = ap (λ l. callees_in (see.body b.now) ∷ l) (map_twice bs)

has_seen : (bs : List (Bor (List Instr))) (b : Bor (List Instr)) → Has bs b → Has (map (λ b. see.body b.now) bs) (see.body b.now)
has_seen [] b h = absurd h
has_seen (c ∷ bs) b (inl e) = inl (ap (λ (d : Bor (List Instr)). see.body d.now) e)
has_seen (c ∷ bs) b (inr h) = inr (has_seen bs b h)

module _ (sh : SheetOf) (is : IsSheet (see.sheet sh)) where
  count : length (see.sheet sh).named ≡ length sh.named.now
  count = length-map sh.named.now (λ b. see.body b.now)

  pub calls_low : All (λ (b : Bor (List Instr)). All (λ n. n < length sh.named.now) (callees_in (see.body b.now))) sh.named.now
  calls_low k d low = λ i v at.
      let body : Bor (List Instr) = get_or sh.named.now k d in
      let has = has_seen sh.named.now body (has_from_contains sh.named.now body (Contains-get_or sh.named.now k d low)) in
      let well = every_member (IsBody (see.sheet sh)) (see.sheet sh).named (see.body body.now) (every_from_all (IsBody (see.sheet sh)) (see.sheet sh).named is.named) has in
      let n : ℕ = get_or (callees_in (see.body body.now)) i v in
      let within : n < length (see.sheet sh).named = callees_low (see.sheet sh) (see.body body.now) well n (has_from_contains (callees_in (see.body body.now)) n (Contains-get_or (callees_in (see.body body.now)) i v at)) in
      omega (arith, within, count)

  module _ (order : List ℕ) (are : AreComponentsInOrder (map (λ b. callees_in (see.body b.now)) sh.named.now) order) where
    same : AreComponentsInOrder (map callees_in (see.sheet sh).named) order
    same = subst (λ rows. AreComponentsInOrder rows order) (sym (map_twice sh.named.now)) are

    abbrev height_of : ℕ → ℕ
    height_of n = max (highest (heights_in (see.sheet sh).named (replicate n 0) order)) (highest_rule (heights_in (see.sheet sh).named (replicate n 0) order) (see.sheet sh).rules)

    pub passes : (calls : ℕ) → calls ≡ height_of (length sh.named.now) → 8001 ≤ calls → PassCalls (see.sheet sh) 8000
    passes calls e h = let is_so : calls ≡ height_of (length (see.sheet sh).named) = e ∙ ap height_of (sym count) in too_high (see.sheet sh) is order same (omega (arith, h, is_so))

    pub keeps : (calls : ℕ) → calls ≡ height_of (length sh.named.now) → calls < 8001 → PassCalls (see.sheet sh) 8000 → ⊥
    keeps calls e h p =
        let is_so : calls ≡ height_of (length (see.sheet sh).named) = e ∙ ap height_of (sym count) in
        let high = high_enough (see.sheet sh) is order same p in
        omega (arith, h, is_so, high)

    pub shallow : (calls depth : ℕ) → calls ≡ height_of (length sh.named.now) → calls < 8001 → depth ≡ max (deepest_rule (see.sheet sh).rules) (deepest (see.sheet sh).named) → depth ≤ 8000
    shallow calls depth e h d =
        let is_so : calls ≡ height_of (length (see.sheet sh).named) = e ∙ ap height_of (sym count) in
        let most = not_deep (see.sheet sh) is order same in
        omega (arith, h, is_so, most, d)

    pub ordered : AreCalleesFirst (see.sheet sh).named order
    ordered = comes_first (see.sheet sh) is order same

-- a fault that is handed on
pub handed_on : {T : Type 0} (r : Result T MachineFault) (e : MachineFault) (P Q : MachineFault → Type 0) → IsErrAnd r (λ f. f ≡ e) → ((f : MachineFault) → P f → Q f) → P e → IfErr r Q
handed_on (Ok v) e P Q h f g = tt
handed_on (Err d) e P Q h f g = f d (subst P (sym h) g)
