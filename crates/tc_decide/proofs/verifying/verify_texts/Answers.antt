use Rattle.tc_decide.specs.Checking.{IsWithinTripleLimits}
use Rattle.tc_decide.specs.TextsSeen.{IsFoundOfTexts}
use Rattle.tc_decide.specs.VerifiedSeen.{IsVerified}
use Rattle.tc_decide.proofs.Found.{by_machine, stopped}
use Rattle.tc_decide.proofs.TextsRead.{err_whole}
use Rattle.tc_decide.proofs.Triples.{to_triple}
use Rattle.tc_decide.proofs.Verifications.{verified_texts}
use Rattle.tc_decide.proofs.verifying.verify_texts.Goals as goal

pub returns-in_err-machine : goal.returns-in_err-machine
returns-in_err-machine c =
    let bytes = c.args.certificate.now in
    err_whole c.from_residual.result _ (IsFoundOfTexts (IsVerified bytes) c.args.input c.args.output c.args.sheet.now) c.from_residual.ensures.1
    (stopped (IsVerified bytes) (verified_texts bytes) c.args.input c.args.output c.args.sheet.now _ c.in_err-machine.ensures.no)

pub verify_text-requires-clause-machine : goal.verify_text-requires-clause-machine
verify_text-requires-clause-machine c = let made = c.in_ok-machine.ensures.ok.machine in (made.triple, made.machine)

pub returns : goal.returns
returns c =
    let bytes = c.args.certificate.now in
    let texts = c.in_ok-machine.ensures.ok in
    let made = texts.machine in
    by_machine (IsVerified bytes) (verified_texts bytes) c.args.input c.args.output c.args.sheet.now _ c.verify_text.result texts (c.verify_text.ensures made.triple made.machine (to_triple IsWithinTripleLimits made.of made.within_limits))
