use Rattle.std.proofs.Common.{subst, sym}
use Rattle.tc_decide.specs.TextsSeen.{IsRefusalOf}
use Rattle.tc_decide.specs.declared.failure.Which.TheVariants.{Document}
use Rattle.tc_decide.proofs.TextsRead.{refusal}
use Rattle.tc_decide.proofs.running.document_of.Goals as goal
use Rattle.tc_read.specs.Refusals.{IsRefusedDocument}

pub returns-in-Err-clause-no : goal.returns-in-Err-clause-no
returns-in-Err-clause-no c =
    subst (IsRefusalOf Document (IsRefusedDocument c.args.text.now)) (sym c.unaccepted.ensures) (refusal Document (IsRefusedDocument c.args.text.now) c.in-Err.fault c.in-Err.ensures.no)
