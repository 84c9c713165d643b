use Rattle.std.proofs.Common.{◌≡◌, ℕ, ◌↔◌, ◌⊎◌, take}
use Rattle.std.specs.List.{Contains}
use Rattle.tc_mat.specs.Matrix.{HasPair, IsMatrix}
use Rattle.tc_hedge.proofs.hedge.put_arrows.Given as goal

abbrev pub invariant-loop-arrow : goal.invariant-loop-arrow
invariant-loop-arrow l =
    (l.out.size ≡ l.initial.out.size)
    × IsMatrix l.out
    × ((i j : ℕ) → HasPair l.out i j ↔ (HasPair l.initial.out i j ⊎ Contains (take l.arrow-index l.arrows) (record { from = i; to = j })))
