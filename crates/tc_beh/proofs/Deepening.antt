-- The sets of named bodies, one after the other.
use Rattle.std.proofs.Common.{◌≡◌, ◌≢◌, ◌<◌, ◌≤◌, ◌+◌, ◌⊎◌, inl, inr, ℕ, zero, suc, List, [], ◌∷◌, length, get_or, Some, slice_get, subst, sym, ap, ◌∙◌, arith, Bor}
use Rattle.std.proofs.lemmas.Bool.{cases_order}
use Rattle.std.proofs.lemmas.Option.{slice_get-get_or, slice_get_within, same_Some}
use Rattle.tc_mat.specs.Matrix.{Matrix}
use Rattle.tc_model.specs.declared.sheet.Instr.{Instr}
use Rattle.tc_model.specs.declared.sheet.Sheet.{Sheet as SheetOf}
use Rattle.tc_model.specs.Sheets.{Path, Sheet, Body, no_instruction}
use Rattle.tc_model.specs.Views as see
use Rattle.tc_rules.specs.declared.rules.Rules.{Rules}
use Rattle.tc_rules.specs.Kept.{told}
use Rattle.tc_rules.specs.Parts.{IsPart}
use Rattle.tc_rules.specs.RulesView.{RulesView}
use Rattle.tc_rules.proofs.PartsOf.{named_part}
use Rattle.tc_rows.specs.Triples.{Triple, sheet, outputs}
use Rattle.tc_rows.specs.PairSets.{HaveSamePairs, product}
use Rattle.tc_rows.specs.Bodies.{NodeKind, Below, body_pairs, stay}
use Rattle.tc_rows.proofs.PairLaws.{same_on, same_self, product_same}
use Rattle.tc_beh.specs.Callees.{AreCalleesFirst}
use Rattle.tc_beh.specs.Heights.{depth_in, deepest}
use Rattle.tc_beh.specs.Putting.{has, put_pairs, IsCalled}
use Rattle.tc_beh.specs.Places.{IsPlaceIn, no_matrix}
use Rattle.tc_beh.specs.Stands.{IsRulesIn}
use Rattle.tc_beh.specs.Grounds.{IsGroundIn, AreNamedSets, called_from}
use Rattle.tc_beh.specs.declared.bodies.Place.{Place}
use Rattle.tc_beh.proofs.Called.{put_is}
use Rattle.tc_beh.proofs.Marking.{has_got}
use Rattle.tc_beh.proofs.Meant.{got_seen}
use Rattle.tc_beh.proofs.Starts.{StartsBelow, stay_first, starts}

-- a place with other sets for the named bodies
pub with_named : (x : Triple) (p : Place) (sets : Bor (List Matrix)) → IsGroundIn x p → AreNamedSets p sets.now
    → IsPlaceIn x (record p { named = sets })
with_named x p sets ok n = record {
  rules = ok.rules;
  hedge = ok.hedge;
  symbols = ok.symbols;
  size = ok.size;
  text = ok.text;
  held = ok.held;
  named_count = n.count ∙ ap (λ (t : RulesView). length t.sheet.named) ok.rules.told;
  named = λ k d low. n.sizes k d low ∙ ok.size;
  sizes = ok.sizes;
  outs = ok.outs;
  symbol = ok.symbol;
  nothing = ok.nothing;
  bears = ok.bears;
  count = ok.count;
  above = ok.above;
}

-- what stands past the end of a list of named bodies
abbrev pub no_body : Bor (List Instr)
no_body = record { ref_ptr = (0, 0); now = [] }

pub named_got : (s : Sheet) (sh : SheetOf) (n : ℕ) → see.sheet sh ≡ s → n < length s.named → slice_get s.named n ≡ Some (see.body (get_or sh.named.now n no_body).now)
named_got s sh n e h = got_seen (λ (b : Bor (List Instr)). see.body b.now) sh.named.now s.named n no_body (ap (λ (y : Sheet). y.named) e) h

pub named_is : (s : Sheet) (sh : SheetOf) (n : ℕ) → see.sheet sh ≡ s → n < length s.named → get_or s.named n no_instruction ≡ see.body (get_or sh.named.now n no_body).now
named_is s sh n e h = same_Some _ _ (sym (slice_get-get_or s.named n no_instruction h) ∙ named_got s sh n e h)

pub named_part_at : (x : Triple) (r : Rules) (n : ℕ) (b : Body) → IsRulesIn x r → slice_get (told r).sheet.named n ≡ Some b → IsPart (told r).sheet b
named_part_at x r n b is e = named_part (told r).sheet is.rules.tells.well_formed b (has_got (told r).sheet.named n b e)

pub deepest_at : (bs : List Body) (n : ℕ) (d : Body) → n < length bs → depth_in (get_or bs n d) ≤ deepest bs
deepest_at [] n d low = absurd (omega (arith, low))
deepest_at (b ∷ bs) zero d low = omega arith
deepest_at (b ∷ bs) (suc n) d low = omega (arith, deepest_at bs n d (omega (arith, low)))

module _ (x : Triple) (k : NodeKind) (w : Below) (order : List ℕ) (first : AreCalleesFirst (sheet x).named order) where
  abbrev Before : ℕ → ℕ → Type 0
  Before i n = (j : ℕ) × (j < i) × (slice_get order j ≡ Some n)

  -- the sets of the first so many of the order are right
  abbrev pub Ready : ℕ → List Matrix → Type 0
  Ready i sets = (n : ℕ) → Before i n → IsCalled x k w (called_from sets) n

  is_before : (i n m : ℕ) → slice_get order i ≡ Some n → m ≢ n → Before (i + 1) m → Before i m
  is_before i n m at other (j, low, there) = by (cases_order j i)
    where
      by : (j ≡ i) ⊎ ((j < i) ⊎ (i < j)) → Before i m
      by (inl e) = absurd (other (same_Some m n (sym there ∙ (ap (slice_get order) e ∙ at))))
      by (inr (inl l)) = (j, l, there)
      by (inr (inr l)) = absurd (omega (arith, low, l))

  set_called : ((mode : ℕ) (p : Path) → StartsBelow (outputs x) (w.pairs mode p)) → (i n : ℕ) (old new : List Matrix) → slice_get order i ≡ Some n → Ready i old
      → HaveSamePairs (has (get_or new n no_matrix)) (product (stay x) (put_pairs x k w (called_from old) (get_or (sheet x).named n no_instruction))) → IsCalled x k w (called_from new) n
  set_called low i n old new at ready put = λ b p is u.
      let same : get_or (sheet x).named n no_instruction ≡ b = same_Some _ _ (sym (slice_get-get_or (sheet x).named n no_instruction (first.within i n at)) ∙ is) in
      same_on (has (get_or new n no_matrix)) (product (stay x) (put_pairs x k w (called_from old) b)) (body_pairs x p k w)
      (subst (λ c. HaveSamePairs (has (get_or new n no_matrix)) (product (stay x) (put_pairs x k w (called_from old) c))) same put)
      (same_on (product (stay x) (put_pairs x k w (called_from old) b)) (product (stay x) (body_pairs x p k w)) (body_pairs x p k w)
      (product_same (stay x) (stay x) (put_pairs x k w (called_from old) b) (body_pairs x p k w) (same_self (stay x)) (put_is x k w (called_from old) u (λ m c. ready m (first.before i n m b at is c))))
      (stay_first (outputs x) (body_pairs x p k w) (starts x k w low p)))

  keep_called : (m : ℕ) (old new : List Matrix) → get_or new m no_matrix ≡ get_or old m no_matrix → IsCalled x k w (called_from old) m → IsCalled x k w (called_from new) m
  keep_called m old new e h = λ b p is u. subst (λ (v : Matrix). HaveSamePairs (has v) (body_pairs x p k w)) (sym e) (h b p is u)

  pub one_more_ready : ((mode : ℕ) (p : Path) → StartsBelow (outputs x) (w.pairs mode p)) → (i n : ℕ) (old new : List Matrix) → slice_get order i ≡ Some n → Ready i old
      → ((m : ℕ) → m ≢ n → get_or new m no_matrix ≡ get_or old m no_matrix)
      → HaveSamePairs (has (get_or new n no_matrix)) (product (stay x) (put_pairs x k w (called_from old) (get_or (sheet x).named n no_instruction))) → Ready (i + 1) new
  one_more_ready low i n old new at ready others put = λ m bef. by m bef (cases_order m n)
    where
      by : (m : ℕ) → Before (i + 1) m → (m ≡ n) ⊎ ((m < n) ⊎ (n < m)) → IsCalled x k w (called_from new) m
      by m bef (inl e) = subst (IsCalled x k w (called_from new)) (sym e) (set_called low i n old new at ready put)
      by m bef (inr (inl l)) = let other : m ≢ n = λ e. omega (arith, e, l) in keep_called m old new (others m other) (ready m (is_before i n m at other bef))
      by m bef (inr (inr l)) = let other : m ≢ n = λ e. omega (arith, e, l) in keep_called m old new (others m other) (ready m (is_before i n m at other bef))

  pub all_ready : (i : ℕ) (sets : List Matrix) → length order ≤ i → Ready i sets → (n : ℕ) → IsCalled x k w (called_from sets) n
  all_ready i sets past ready n = λ b p is u.
      let (j, at) = first.all n (slice_get_within (sheet x).named n b is) in
      let within : j < length order = slice_get_within order j n at in
      ready n (j, omega (arith, within, past), at) b p is u
