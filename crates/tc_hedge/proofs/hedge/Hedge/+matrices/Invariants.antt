use Rattle.std.proofs.Common.{◌≡◌, length, take}
use Rattle.tc_mat.specs.Matrix.{IsMatrix}
use Rattle.tc_model.specs.Views as see
use Rattle.tc_model.specs.Grammars.{Grammar}
use Rattle.tc_model.specs.States.{Side}
use Rattle.tc_auto.specs.Stands as held
use Rattle.tc_hedge.specs.Leading.{ArePairsOf}
use Rattle.tc_hedge.proofs.hedge.Hedge.+matrices.Given as goal

abbrev pub invariant-matrix_of-loop-node : goal.invariant-matrix_of-loop-node
invariant-matrix_of-loop-node l =
    (l.led.size ≡ length l.self.auto.rows.items)
    × IsMatrix l.led
    × ((side : Side) (x : Grammar) → held.Stands side x l.self.auto → ArePairsOf x side (see.trees (take l.node-index l.nodes)) l.led)
