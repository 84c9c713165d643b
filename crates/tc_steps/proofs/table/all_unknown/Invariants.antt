use Rattle.std.proofs.Common.{◌≡◌, ℕ, length}
use Rattle.tc_steps.specs.Classes.{AreSized, IsKnown}
use Rattle.tc_steps.proofs.table.all_unknown.Given as goal

abbrev pub invariant-loop-symbol : goal.invariant-loop-symbol
invariant-loop-symbol l = (length l.classes.items ≡ l._symbol) × AreSized l.automaton l.classes.items × ((k : ℕ) → IsKnown l.classes.items k → ⊥)
