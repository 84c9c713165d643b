use Rattle.tc_run.specs.Lettered.{bare}
use Rattle.tc_run.specs.Views.{trees}
use Rattle.tc_run.proofs.Asking.{look_asked, look_found}
use Rattle.tc_run.proofs.predicates.is_met.Goals as goal

pub finds-requires-clause-state : goal.finds-requires-clause-state
finds-requires-clause-state c = look_asked c.args.runner.now c.args.asked c.in-Look.look c.requires.asked.0 c.in-Look.is c.requires.asked.1

pub returns-in-Look-clause-met : goal.returns-in-Look-clause-met
returns-in-Look-clause-met c = λ t is.
    look_found c.args.runner.now c.args.asked c.in-Look.look t (bare (trees c.args.kids.now)) c.finds.result c.in-Look.is is c.finds.ensures.answer
