use Rattle.tc_decide.specs.DeadSpotsSeen.{IsFoundOfTwo}
use Rattle.tc_decide.proofs.SpotsTold.{found_of_texts, stopped_texts}
use Rattle.tc_decide.proofs.TextsRead.{err_whole}
use Rattle.tc_decide.proofs.spots.dead_of_texts.Goals as goal

pub returns-in_err-marking : goal.returns-in_err-marking
returns-in_err-marking c =
    err_whole c.from_residual.result _ (IsFoundOfTwo c.args.input c.args.sheet.now) c.from_residual.ensures.1 (stopped_texts c.args.input c.args.sheet.now _ c.in_err-marking.ensures.no)

pub dead_of-requires : goal.dead_of-requires
dead_of-requires c = record { marking = c.in_ok-marking.ensures.ok.is }

pub returns : goal.returns
returns c = found_of_texts c.args.input c.args.sheet.now c.in_ok-marking.marking c.dead_of.result c.in_ok-marking.ensures.ok c.dead_of.ensures
