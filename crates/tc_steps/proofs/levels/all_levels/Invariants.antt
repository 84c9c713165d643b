use Rattle.std.proofs.Common.{◌≡◌, length, All}
use Rattle.tc_auto.specs.Stands as held
use Rattle.tc_steps.specs.declared.levels.Level.{Level}
use Rattle.tc_steps.proofs.levels.all_levels.Given as goal

abbrev pub invariant-loop-level : goal.invariant-loop-level
invariant-loop-level l = (length l.levels.items ≡ l._level) × All (λ (r : Level). r.states.size ≡ held.states l.automaton) l.levels.items × All (λ (r : Level). r.symbol.0 ≡ 0) l.levels.items
