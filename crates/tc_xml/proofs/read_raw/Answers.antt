use Rattle.std.proofs.Common.{arith, sym, subst}
use Rattle.tc_model.specs.Views.{raw_tree}
use Rattle.tc_model.specs.XmlTextLaws.{AreLawfulWithin}
use Rattle.tc_model.proofs.XmlTextTrees.{lawful_raw_tree}
use Rattle.tc_model.proofs.XmlTextDocument.{document}
use Rattle.tc_xml.specs.Faults.{IsFaultOf}
use Rattle.tc_xml.proofs.FaultLaws.{fault_is, front_within, others_behind, reads_element, whole_read}
use Rattle.tc_xml.proofs.read_raw.Goals as goal

pub document-requires-clause-total : goal.document-requires-clause-total
document-requires-clause-total c = omega (arith, front_within c.characters-front.ensures)

pub document-requires-clause-characters : goal.document-requires-clause-characters
document-requires-clause-characters c = c.characters-front.ensures.characters

pub place_of-requires : goal.place_of-requires
place_of-requires c = omega (arith, front_within c.characters-front.ensures)

pub fault-requires : goal.fault-requires
fault-requires c = omega (arith, front_within c.characters-front.ensures)

pub returns-then-front-text-clause-ok : goal.returns-then-front-text-clause-ok
returns-then-front-text-clause-ok c = whole_read c.characters-front.ensures c.if-front-text.true c.in-Ok.ensures.ok

pub returns-then-front-text-clause-element : goal.returns-then-front-text-clause-element
returns-then-front-text-clause-element c = reads_element c.in-Ok.ensures.ok

pub returns-then-front-text-clause-lawful : goal.returns-then-front-text-clause-lawful
returns-then-front-text-clause-lawful c =
    subst (λ n. AreLawfulWithin n (raw_tree c.in-Ok.tree)) c.if-front-text.true (lawful_raw_tree c.characters-front.result.now (raw_tree c.in-Ok.tree) c.in-Ok.ensures.ok)

pub returns-then-front-text-clause-document : goal.returns-then-front-text-clause-document
returns-then-front-text-clause-document c = document c.characters-front.result.now (raw_tree c.in-Ok.tree) c.in-Ok.ensures.ok

pub returns-else-front-text-clause-refused : goal.returns-else-front-text-clause-refused
returns-else-front-text-clause-refused c =
    others_behind c.args.text.now c.characters-front.result.now (raw_tree c.in-Ok.tree) c.place_of.result c.characters-front.ensures c.in-Ok.ensures.ok c.if-front-text.false c.place_of.ensures

pub returns-in-Err-clause-refused : goal.returns-in-Err-clause-refused
returns-in-Err-clause-refused c =
    subst (IsFaultOf c.args.text.now) (sym c.fault.ensures)
    (fault_is c.args.text.now c.characters-front.result.now c.in-Err.stop c.characters-front.ensures c.in-Err.ensures.no c.in-Err.ensures.stands c.in-Err.ensures.malformed)
