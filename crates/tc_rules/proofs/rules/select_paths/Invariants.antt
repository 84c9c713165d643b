use Rattle.std.proofs.Common.{◌≡◌, ◌++◌, map, drop}
use Rattle.tc_model.specs.Views as see
use Rattle.tc_rules.specs.Views.{looks}
use Rattle.tc_rules.proofs.rules.select_paths.Given as goal

abbrev pub invariant-loop-found : goal.invariant-loop-found
invariant-loop-found l = looks l.paths.items ++ map (λ m. see.path m.path.now) (drop l.found-index l.moves) ≡ map (λ m. see.path m.path.now) l.moves
