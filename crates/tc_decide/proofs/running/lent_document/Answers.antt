use Rattle.std.proofs.Common.{ℕ, List, subst, sym}
use Rattle.tc_decide.specs.TextsSeen.{IsRefusalOf}
use Rattle.tc_decide.specs.declared.failure.Which.TheVariants.{Document}
use Rattle.tc_decide.proofs.TextsRead.{refusal}
use Rattle.tc_decide.proofs.running.lent_document.Goals as goal
use Rattle.tc_read.specs.Faults.{IsUnaccepted, of_xml}
use Rattle.tc_read.specs.Refusals.{IsRefusedDocument}
use Rattle.tc_xml.specs.Faults.{IsFaultOf}
use Rattle.tc_xml.specs.declared.faults.XmlFault.{XmlFault}
use Rattle.tc_xml.specs.declared.faults.XmlFault.TheVariants as x

unread : (bytes : List ℕ) (fault : XmlFault) → IsFaultOf bytes fault → IsUnaccepted (IsRefusedDocument bytes) (of_xml fault)
unread bytes (x.Malformed p) h = h
unread bytes (x.Unsupported p why) h = h
unread bytes (x.TooDeep p) h = h
unread bytes x.NoMemory h = tt

pub returns-in-Err-clause-no : goal.returns-in-Err-clause-no
returns-in-Err-clause-no c =
    let t = c.args.text.now in
    let why = subst (IsUnaccepted (IsRefusedDocument t)) (sym c.from-refused.ensures) (unread t c.in-Err.fault c.in-Err.ensures.refused) in
    subst (IsRefusalOf Document (IsRefusedDocument t)) (sym c.unaccepted.ensures) (refusal Document (IsRefusedDocument t) c.from-refused.result why)
