use Rattle.std.proofs.Common.{◌≡◌, drop}
use Rattle.tc_model.specs.Machine as machine
use Rattle.tc_rules.specs.States.{Looking}
use Rattle.tc_run.specs.Lettered.{bare}
use Rattle.tc_run.specs.Running.{IsLetteredBy, looking, told_by}
use Rattle.tc_run.specs.Sights.{AreSeenBy}
use Rattle.tc_run.specs.Views.{trees}
use Rattle.tc_rules.specs.Tasks.{IsLookAt}
use Rattle.tc_run.proofs.looks.+finds.Given as goal

-- no hit so far
abbrev pub invariant-finds-loop-node : goal.invariant-finds-loop-node
invariant-finds-loop-node l =
    AreSeenBy l.runner l.known × IsLetteredBy l.runner (trees (drop l.node-index l.nodes))
    × ((s : Looking) → IsLookAt (told_by l.runner) l.look s
    → machine.first_hit (looking l.runner) (bare (trees l.nodes)) s ≡ machine.first_hit (looking l.runner) (bare (trees (drop l.node-index l.nodes))) s)
