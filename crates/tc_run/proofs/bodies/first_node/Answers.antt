use Rattle.std.proofs.Common.{sym, ap}
use Rattle.tc_model.specs.Machine.{first_hit}
use Rattle.tc_model.specs.Meaning.{value_of_first}
use Rattle.tc_model.specs.Views as see
use Rattle.tc_rules.specs.Tasks.{looking_from}
use Rattle.tc_run.specs.Lettered.{bare}
use Rattle.tc_run.specs.Running.{looking, symbols_by}
use Rattle.tc_run.specs.Views.{trees}
use Rattle.tc_run.proofs.BuiltIn.{value_found}
use Rattle.tc_run.proofs.FirstHits.{none_first}
use Rattle.tc_run.proofs.bodies.first_node.Goals as goal

pub returns-in-None-clause-value : goal.returns-in-None-clause-value
returns-in-None-clause-value c =
    let r = c.args.runner.now in
    sym (ap value_of_first (none_first r (see.path c.args.path.now) (bare (trees c.args.here.now.kids.now)) (c.in-None.ensures _ c.requires.here.runner)))

pub returns-in-Some-clause-value : goal.returns-in-Some-clause-value
returns-in-Some-clause-value c =
    let r = c.args.runner.now in
    let p = see.path c.args.path.now in
    value_found c.first_hit.result (first_hit (looking r) (bare (trees c.args.here.now.kids.now)) (looking_from p))
    (c.first_hit.ensures.answer (looking_from p) (c.in-Some.ensures (symbols_by r) c.requires.here.runner))

pub first_hit-requires-clause-nodes : goal.first_hit-requires-clause-nodes
first_hit-requires-clause-nodes c = record { runner = c.requires.here.runner; nodes = c.requires.here.here.kids; known = c.requires.here.known }
