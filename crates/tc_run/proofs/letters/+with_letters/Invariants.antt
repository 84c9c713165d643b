use Rattle.std.proofs.Common.{◌≡◌, drop}
use Rattle.tc_model.specs.Trees.{beside}
use Rattle.tc_model.specs.Views as see
use Rattle.tc_run.specs.Lettered.{bare}
use Rattle.tc_run.specs.Running.{IsLetteredIn, kids_of}
use Rattle.tc_run.specs.Sights.{AreRemembered, HasGrown}
use Rattle.tc_run.specs.Views.{trees}
use Rattle.tc_run.proofs.letters.+with_letters.Given as goal

-- what was found so far are the first trees with their letters
abbrev pub invariant-loop-node : goal.invariant-loop-node
invariant-loop-node l = record {
  lettered : IsLetteredIn l.runner (kids_of l.known.numbered.items) (trees l.found.items);
  same : beside (bare (trees l.found.items)) (see.trees (drop l.node-index l.nodes)) ≡ see.trees l.nodes;
  known : AreRemembered l.runner l.known;
  grown : HasGrown l.initial.known l.known;
}
