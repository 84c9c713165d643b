-- The predicates that hold on a node, as a number.
use Rattle.std.proofs.Common.{◌≡◌, ℕ, suc, ◌+◌, ◌-◌, ◌*◌, ◌^◌, ◌<◌, ◌≤◌, List, [], ◌∷◌, refl, ap, ◌∙◌, subst, map, drop, length, Bool, true, false, Some, slice_get, if◌then◌else◌, arith}
use Rattle.std.proofs.lemmas.List.{length-drop, length-map}
use Rattle.std.proofs.lemmas.Option.{same_Some}
use Rattle.std.proofs.Math.Pow.{pow_mono}
use mir.Val.{bool_byte}
use Rattle.tc_model.specs.Sheets.{Test}
use Rattle.tc_model.specs.Letters.{marks_of}
use Rattle.tc_model.specs.Numberings.{predicates_of}
use Rattle.tc_rules.specs.Kept.{told}
use Rattle.tc_rules.specs.Parts.{IsPartTest}
use Rattle.tc_rules.specs.RulesView.{RulesView}
use Rattle.tc_rules.specs.declared.rules.Rules.{Rules}
use Rattle.tc_rules.proofs.RowSteps.{drop_at}
use Rattle.tc_rules.proofs.PartsOf.{predicate_part}
use Rattle.tc_alpha.proofs.Members.{Has}
use Rattle.std.proofs.Common.{inl, inr, zero}
use Rattle.tc_rows.specs.Triples.{Triple, predicates}
use Rattle.tc_beh.specs.Stands.{IsRulesIn}

abbrev bit_of : Bool → ℕ
bit_of b = if b then 1 else 0

-- one predicate more
marks_step : (f : Test → Bool) (ps : List Test) (i : ℕ) (w : Test) → slice_get ps i ≡ Some w
    → marks_of (map f (drop i ps)) ≡ (if f w then 1 else 0) + 2 * marks_of (map f (drop (i + 1) ps))
marks_step f ps i w e = ap (λ xs. marks_of (map f xs)) (drop_at ps i w e)

pub marks_few : (bs : List Bool) → marks_of bs < 2 ^ length bs
marks_few [] = omega arith
marks_few (true ∷ bs) = by (length bs) (marks_of bs) (marks_few bs)
  where
    by : (n m : ℕ) → m < 2 ^ n → 1 + 2 * m < 2 ^ suc n
    by n m h = grind arith
marks_few (false ∷ bs) = by (length bs) (marks_of bs) (marks_few bs)
  where
    by : (n m : ℕ) → m < 2 ^ n → 0 + 2 * m < 2 ^ suc n
    by n m h = grind arith

-- there are at most 6 predicates
marks_small : (f : Test → Bool) (ps : List Test) (i : ℕ) → length ps ≤ 6 → marks_of (map f (drop i ps)) < 64
marks_small f ps i h =
    let few : marks_of (map f (drop i ps)) < 2 ^ length (map f (drop i ps)) = marks_few (map f (drop i ps)) in
    let count : length (map f (drop i ps)) ≡ length ps - i = length-map (drop i ps) f ∙ length-drop i ps in
    let six : length (map f (drop i ps)) ≤ 6 = omega (arith, count, h) in
    let most : 2 ^ length (map f (drop i ps)) ≤ 2 ^ 6 = pow_mono six in
    omega (arith, few, most)

bit_is : (b : Bool) → bool_byte b ≡ bit_of b
bit_is true = refl
bit_is false = refl

pub bit_low : (b : Bool) → bool_byte b ≤ 1
bit_low true = omega arith
bit_low false = omega arith

pub mark_more : (f : Test → Bool) (ps : List Test) (n : ℕ) (w : Test) (b : Bool) (m k : ℕ) → 0 < n → slice_get ps (n - 1) ≡ Some w → b ≡ f w → k ≡ bool_byte b
    → m ≡ marks_of (map f (drop n ps)) → 2 * m + k ≡ marks_of (map f (drop (n - 1) ps))
mark_more f ps n w b m k h e same is g =
    let up : n - 1 + 1 ≡ n = omega arith in
    let step : marks_of (map f (drop (n - 1) ps)) ≡ bit_of (f w) + 2 * marks_of (map f (drop (n - 1 + 1) ps)) = marks_step f ps (n - 1) w e in
    let here : marks_of (map f (drop (n - 1 + 1) ps)) ≡ marks_of (map f (drop n ps)) = ap (λ i. marks_of (map f (drop i ps))) up in
    let one : k ≡ bit_of (f w) = is ∙ (bit_is b ∙ ap bit_of same) in
    omega (arith, step, here, one, g)

pub marks_low : (x : Triple) (r : Rules) → IsRulesIn x r → (f : Test → Bool) (n m : ℕ) → m ≡ marks_of (map f (drop n (predicates_of (told r).sheet))) → m < 64
marks_low x r is f n m e =
    let few : length (predicates_of (told r).sheet) ≤ 6 = subst (λ ps. length ps ≤ 6) is.rules.tells.predicates_are is.rules.tells.few_predicates in
    omega (arith, e, marks_small f (predicates_of (told r).sheet) n few)

pub has_got : {X : Type 0} (xs : List X) (i : ℕ) (x : X) → slice_get xs i ≡ Some x → Has xs x
has_got [] i x e = absurd (cc)
has_got (y ∷ ys) zero x e = inl (same_Some y x e)
has_got (y ∷ ys) (suc i) x e = inr (has_got ys i x e)

pub predicate_is_part : (r : Rules) (i : ℕ) (w : Test) → slice_get (predicates_of (told r).sheet) i ≡ Some w → IsPartTest (told r).sheet w
predicate_is_part r i w e = predicate_part (told r).sheet w (has_got (predicates_of (told r).sheet) i w e)

pub predicates_told : (x : Triple) (r : Rules) → IsRulesIn x r → predicates_of (told r).sheet ≡ predicates x
predicates_told x r is = ap (λ (t : RulesView). predicates_of t.sheet) is.told
