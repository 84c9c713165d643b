-- What is left of trees is no higher than all of them, and children are lower.
use Rattle.std.proofs.Common.{ℕ, zero, suc, ◌≤◌, List, [], ◌∷◌, sym, subst, drop, arith}
use Rattle.tc_run.specs.Lettered as l
use Rattle.tc_run.specs.Lettered.{bare}
use Rattle.tc_run.specs.Views.{before, trees}
use Rattle.tc_run.specs.declared.letters.Lettered.{Lettered, Lettered-F}
use Rattle.tc_run.specs.declared.letters.Lettered.TheOpen as parts
use Rattle.tc_run.specs.declared.letters.Lettered.TheVariants.{rolls-Elem, rolls-Text}
use Rattle.tc_run.specs.declared.letters.Lettered.TheViews.{roll-Lettered, out-Lettered, roll-out-Lettered}
use Rattle.tc_run.proofs.Progress.{height}
use Rattle.tc_run.proofs.Views.{before_elem, before_text}

abbrev pub height_of : l.Lettered → ℕ
height_of x = height (bare x)

abbrev IsNoLower : l.Lettered → Lettered → Type 0
IsNoLower rest x = height_of rest ≤ height_of (before x rest)

layer_no_lower : (f : Lettered-F Lettered) (rest : l.Lettered) → IsNoLower rest (roll-Lettered f)
layer_no_lower (parts.Elem n x kids) rest =
    let P : Lettered → Type 0 = λ y. IsNoLower rest y in
    subst P (sym (rolls-Elem n x kids)) (subst (λ (y : l.Lettered). height_of rest ≤ height_of y) (sym (before_elem n x kids rest)) (omega arith))
layer_no_lower (parts.Text s m) rest =
    let P : Lettered → Type 0 = λ y. IsNoLower rest y in
    subst P (sym (rolls-Text s m)) (subst (λ (y : l.Lettered). height_of rest ≤ height_of y) (sym (before_text s m rest)) (omega arith))

no_lower : (x : Lettered) (rest : l.Lettered) → IsNoLower rest x
no_lower x rest = let P : Lettered → Type 0 = λ y. IsNoLower rest y in subst P (roll-out-Lettered x) (layer_no_lower (out-Lettered x) rest)

-- what is left of a list
pub left_no_higher : (ns : List Lettered) (i : ℕ) → height_of (trees (drop i ns)) ≤ height_of (trees ns)
left_no_higher [] zero = omega arith
left_no_higher [] (suc i) = omega arith
left_no_higher (n ∷ ns) zero = omega arith
left_no_higher (n ∷ ns) (suc i) = omega (arith, left_no_higher ns i, no_lower n (trees ns))
