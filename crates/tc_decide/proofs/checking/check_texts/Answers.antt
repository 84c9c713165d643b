use Rattle.tc_decide.specs.Checking.{IsWithinTripleLimits}
use Rattle.tc_decide.specs.TextsSeen.{IsFound, IsFoundOfTexts}
use Rattle.tc_decide.proofs.Deciding.{found_texts}
use Rattle.tc_decide.proofs.Found.{by_machine, stopped}
use Rattle.tc_decide.proofs.TextsRead.{err_whole}
use Rattle.tc_decide.proofs.Triples.{to_triple}
use Rattle.tc_decide.proofs.checking.check_texts.Goals as goal

pub returns-in_err-machine : goal.returns-in_err-machine
returns-in_err-machine c =
    err_whole c.from_residual.result _ (IsFoundOfTexts (IsFound c.args.most) c.args.input c.args.output c.args.sheet.now) c.from_residual.ensures.1
    (stopped (IsFound c.args.most) (found_texts c.args.most) c.args.input c.args.output c.args.sheet.now _ c.in_err-machine.ensures.no)

pub decide-requires-clause-machine : goal.decide-requires-clause-machine
decide-requires-clause-machine c = let made = c.in_ok-machine.ensures.ok.machine in (made.triple, made.machine)

pub returns : goal.returns
returns c =
    let texts = c.in_ok-machine.ensures.ok in
    let made = texts.machine in
    by_machine (IsFound c.args.most) (found_texts c.args.most) c.args.input c.args.output c.args.sheet.now _ c.decide.result texts (c.decide.ensures made.triple made.machine (to_triple IsWithinTripleLimits made.of made.within_limits))
