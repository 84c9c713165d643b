use Rattle.tc_dead.specs.Views.{seen}
use Rattle.tc_decide.proofs.Stages.{grow_kept, grow_either}
use Rattle.tc_decide.proofs.spots.earlier_of.Goals as goal
use Rattle.tc_model.specs.Views as see

pub returns-in-Ok : goal.returns-in-Ok
returns-in-Ok c = λ i read ps x. grow_kept i (see.sheet c.args.marking.now.sheet) ps (seen c.args.spot) c.args.found x (c.in-Ok.ensures.within i read)

pub returns-in-Err : goal.returns-in-Err
returns-in-Err c = λ i read ps x.
    grow_either i (see.sheet c.args.marking.now.sheet) ps (seen c.args.spot) c.args.found c.in-Err.here c.first_tried.result x (c.in-Err.ensures.err i read) c.first_tried.ensures
