use Rattle.tc_model.specs.States as side
use Rattle.tc_model.specs.Views as see
use Rattle.tc_tests_engine.proofs.triples.outer_of.Goals as goal

pub returns-in-Ok-of : goal.returns-in-Ok-of
returns-in-Ok-of c = c.in-Ok-of.ensures.stands side.output (see.grammar c.args.output.now) c.in-Ok.ensures.stands
