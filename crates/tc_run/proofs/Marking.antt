-- The letters that are kept are those of the trees.
use Rattle.std.proofs.Common.{◌≡◌, ℕ, suc, ◌+◌, ◌-◌, ◌*◌, ◌^◌, ◌<◌, ◌≤◌, List, [], ◌∷◌, refl, ap, ◌∙◌, sym, subst, map, drop, length, Bool, true, false, Bor, Some, IfSome, slice_get, if◌then◌else◌, arith}
use Rattle.std.proofs.lemmas.List.{length-drop, length-map}
use Rattle.std.proofs.Math.Pow.{pow_mono}
use mir.Val.{bool_byte}
use Rattle.tc_model.specs.Trees as t
use Rattle.tc_model.specs.Chains.{Tree, an_element, a_text, children_of}
use Rattle.tc_model.specs.Sheets.{Test}
use Rattle.tc_model.specs.Symbols.{symbol_of}
use Rattle.tc_model.specs.Letters.{letter_of, marks_of}
use Rattle.tc_model.specs.Machine.{holds_in}
use Rattle.tc_model.specs.Views.{name}
use Rattle.tc_model.specs.declared.tree.Name.{Name}
use Rattle.tc_rules.specs.declared.rules.Marks.{Marks}
use Rattle.tc_rules.proofs.RowSteps.{drop_at}
use Rattle.tc_run.specs.Lettered as l
use Rattle.tc_run.specs.Running.{IsRunner, symbols_by, predicates_by, sheet_by, IsLetteredIn, looking}
use Rattle.tc_run.specs.Views.{before, trees}
use Rattle.tc_run.specs.declared.letters.Letter.{Letter}
use Rattle.tc_run.specs.declared.letters.Lettered.{Lettered, Elem, Text}
use Rattle.tc_run.specs.declared.runner.Runner.{Runner}
use Rattle.tc_rules.specs.Parts.{IsPartTest}
use Rattle.tc_rules.proofs.Looking.{marks_by_looks}
use Rattle.tc_run.proofs.Members.{has_got}
use Rattle.tc_rules.proofs.PartsOf.{predicate_part}
use Rattle.tc_run.proofs.Views.{before_elem, before_text}

-- the marks of a node of these children, by looks
abbrev pub marks_on : Runner → t.Trees → ℕ
marks_on r h = marks_of (map (λ p. holds_in (looking r) p h) (predicates_by r))

module _ (r : Runner) (is : IsRunner r) where
  pub marks_are : (u : Tree) → marks_on r (children_of u) ≡ (letter_of (symbols_by r) (predicates_by r) u).marks
  marks_are u = ap marks_of (sym (marks_by_looks (symbols_by r) (sheet_by r) is.tells.well_formed is.tells.symbols_are u))

  pub text_lettered : (numbered : List t.Trees) (s : Bor (List ℕ)) (m : Marks) → m.0 ≡ marks_on r t.none → IsLetteredIn r numbered (before (Text s m) l.none)
  text_lettered numbered s m e = subst (IsLetteredIn r numbered) (sym (before_text s m l.none)) (e ∙ marks_are (a_text s.now), tt)

  pub element_lettered : (numbered : List t.Trees) (n : Bor Name) (x : Letter) (kids : Bor (List Lettered))
      → x.sym.0 ≡ symbol_of (symbols_by r) (name n.now) → x.marks.0 ≡ marks_on r (l.bare (trees kids.now))
      → IfSome x.number (λ k. slice_get numbered k ≡ Some (l.bare (trees kids.now))) → IsLetteredIn r numbered (trees kids.now) → IsLetteredIn r numbered (before (Elem n x kids) l.none)
  element_lettered numbered n x kids e f o k =
      let h = l.bare (trees kids.now) in
      subst (IsLetteredIn r numbered) (sym (before_elem n x kids l.none))
      (record { symbol = e; marks_are = f ∙ marks_are (an_element (name n.now) h); number_is = o }, (k, tt))

abbrev bit_of : Bool → ℕ
bit_of b = if b then 1 else 0

-- one predicate more
pub marks_step : (f : Test → Bool) (ps : List Test) (i : ℕ) (w : Test) → slice_get ps i ≡ Some w
    → marks_of (map f (drop i ps)) ≡ (if f w then 1 else 0) + 2 * marks_of (map f (drop (i + 1) ps))
marks_step f ps i w e = ap (λ xs. marks_of (map f xs)) (drop_at ps i w e)

marks_few : (bs : List Bool) → marks_of bs < 2 ^ length bs
marks_few [] = omega arith
marks_few (true ∷ bs) = by (length bs) (marks_of bs) (marks_few bs)
  where
    by : (n m : ℕ) → m < 2 ^ n → 1 + 2 * m < 2 ^ suc n
    by n m h = grind arith
marks_few (false ∷ bs) = by (length bs) (marks_of bs) (marks_few bs)
  where
    by : (n m : ℕ) → m < 2 ^ n → 0 + 2 * m < 2 ^ suc n
    by n m h = grind arith

-- there are at most 6 predicates
pub marks_small : (f : Test → Bool) (ps : List Test) (i : ℕ) → length ps ≤ 6 → marks_of (map f (drop i ps)) < 64
marks_small f ps i h =
    let few : marks_of (map f (drop i ps)) < 2 ^ length (map f (drop i ps)) = marks_few (map f (drop i ps)) in
    let count : length (map f (drop i ps)) ≡ length ps - i = length-map (drop i ps) f ∙ length-drop i ps in
    let six : length (map f (drop i ps)) ≤ 6 = omega (arith, count, h) in
    let most : 2 ^ length (map f (drop i ps)) ≤ 2 ^ 6 = pow_mono six in
    omega (arith, few, most)

-- the loop over the numbers goes down: the marks of one predicate more
bit_is : (b : Bool) → bool_byte b ≡ bit_of b
bit_is true = refl
bit_is false = refl

pub bit_low : (b : Bool) → bool_byte b ≤ 1
bit_low true = omega arith
bit_low false = omega arith

pub mark_more : (f : Test → Bool) (ps : List Test) (n : ℕ) (w : Test) (b : Bool) (m k : ℕ) → 0 < n → slice_get ps (n - 1) ≡ Some w → b ≡ f w → k ≡ bool_byte b
    → m ≡ marks_of (map f (drop n ps)) → 2 * m + k ≡ marks_of (map f (drop (n - 1) ps))
mark_more f ps n w b m k h e same is g =
    let up : n - 1 + 1 ≡ n = omega arith in
    let step : marks_of (map f (drop (n - 1) ps)) ≡ bit_of (f w) + 2 * marks_of (map f (drop (n - 1 + 1) ps)) = marks_step f ps (n - 1) w e in
    let here : marks_of (map f (drop (n - 1 + 1) ps)) ≡ marks_of (map f (drop n ps)) = ap (λ i. marks_of (map f (drop i ps))) up in
    let one : k ≡ bit_of (f w) = is ∙ (bit_is b ∙ ap bit_of same) in
    omega (arith, step, here, one, g)

pub marks_low : (r : Runner) → IsRunner r → (f : Test → Bool) (n m : ℕ) → m ≡ marks_of (map f (drop n (predicates_by r))) → m < 64
marks_low r is f n m e =
    let few : length (predicates_by r) ≤ 6 = subst (λ ps. length ps ≤ 6) is.tells.predicates_are is.tells.few_predicates in
    omega (arith, e, marks_small f (predicates_by r) n few)

pub predicate_is_part : (r : Runner) (i : ℕ) (w : Test) → slice_get (predicates_by r) i ≡ Some w → IsPartTest (sheet_by r) w
predicate_is_part r i w e = predicate_part (sheet_by r) w (has_got (predicates_by r) i w e)
