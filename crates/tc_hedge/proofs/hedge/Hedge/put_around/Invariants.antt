use Rattle.std.proofs.Common.{◌≡◌, ℕ, ◌↔◌}
use Rattle.tc_mat.specs.Matrix.{HasPair, IsMatrix}
use Rattle.tc_model.specs.Grammars.{Grammar}
use Rattle.tc_model.specs.States.{Side}
use Rattle.tc_auto.specs.Stands as held
use Rattle.tc_hedge.proofs.Puts.{IsAroundTo}
use Rattle.tc_hedge.proofs.hedge.Hedge.put_around.Given as goal

abbrev pub invariant-loop-before : goal.invariant-loop-before
invariant-loop-before l =
    (l.out.size ≡ held.states l.self.auto)
    × IsMatrix l.out
    × ((side : Side) (x : Grammar) → held.Stands side x l.self.auto → (i j : ℕ) → HasPair l.out i j ↔ IsAroundTo x side l.allowed l.inner l.before i j)
