use Rattle.std.proofs.Common.{◌≡◌, ◌++◌, ℕ}
use Rattle.tc_rules.specs.Gathered.{built_in_moves}
use Rattle.tc_rules.specs.Views.{moves}
use Rattle.tc_rules.proofs.gather.built_in_moves.Given as goal

abbrev pub invariant-loop-mode : goal.invariant-loop-mode
invariant-loop-mode l = (k : ℕ) → moves k l.found.items ≡ moves k l.initial.found.items ++ built_in_moves l.mode
