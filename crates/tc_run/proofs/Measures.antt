-- What is left to go deeper becomes less at each call.
use Rattle.std.proofs.Common.{◌≡◌, ℕ, suc, ◌+◌, ◌<◌, ◌≤◌, max, List, ap, ◌∙◌, drop, length, get_or, Bor, arith}
use Rattle.tc_model.specs.Trees as t
use Rattle.tc_model.specs.declared.tree.Name.{Name}
use Rattle.tc_run.specs.Lettered as l
use Rattle.tc_run.specs.Lettered.{bare}
use Rattle.tc_run.specs.Views.{before, trees}
use Rattle.tc_run.specs.declared.letters.Letter.{Letter as LetterOf}
use Rattle.tc_run.specs.declared.letters.Lettered.{Lettered, Elem}
use Rattle.tc_run.proofs.Heights.{height_of, left_no_higher}
use Rattle.tc_run.proofs.OneTree.{one_no_higher}
use Rattle.tc_run.proofs.Progress.{left_at}
use Rattle.tc_run.proofs.Views.{before_elem, left_one}

-- one body or instruction deeper
pub deeper_less : (around n : ℕ) (h : t.Trees) (rank more : ℕ) → (n ≡ around + 1) × (n ≤ 8000) → rank < 16 + more → left_at n h rank < left_at around h more
deeper_less around n h rank more d l = omega (arith, d.0, d.1, l)

-- in one tree of some
pub tree_less : (n : ℕ) (ns : List Lettered) (i : ℕ) (x : Lettered) → i < length ns → x ≡ get_or ns i x → left_at n (bare (before x l.none)) 0 < left_at n (bare (trees ns)) 1
tree_less n ns i x h e =
    let at : height_of (trees (drop i ns)) ≡ height_of (before x (trees (drop (i + 1) ns))) = ap height_of (left_one ns i x h e) in
    let low : height_of (before x l.none) ≤ height_of (trees ns) = omega (arith, at, left_no_higher ns i, one_no_higher x (trees (drop (i + 1) ns))) in
    omega (arith, low)

-- below an element
pub below_less : (n : ℕ) (x : Lettered) (m : Bor Name) (y : LetterOf) (kids : Bor (List Lettered)) (rank : ℕ) → x ≡ Elem m y kids → rank < 16
    → left_at n (bare (trees kids.now)) rank < left_at n (bare (before x l.none)) 0
below_less n x m y kids rank is h =
    let at : height_of (before x l.none) ≡ max (suc (height_of (trees kids.now))) 0 = ap (λ z. height_of (before z l.none)) is ∙ ap height_of (before_elem m y kids l.none) in
    omega (arith, at, h)
