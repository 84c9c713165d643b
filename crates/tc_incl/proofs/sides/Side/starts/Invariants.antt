use Rattle.std.proofs.Common.{ℕ, ◌<◌, IsTrue}
use Rattle.tc_auto.specs.Stands as held
use Rattle.tc_model.specs.Grammars.{Grammar}
use Rattle.tc_model.specs.States.{input, is_alternative}
use Rattle.tc_sets.specs.Numbers.{Has}
use Rattle.tc_incl.proofs.sides.Side.starts.Given as goal

abbrev pub invariant-loop-number : goal.invariant-loop-number
invariant-loop-number l = (x : Grammar) → held.Stands input x l.self.auto.now → (k : ℕ) → k < l.number → Has l.patterns k → IsTrue (is_alternative k x.start) → ⊥
