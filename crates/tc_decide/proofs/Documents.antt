-- What a document's text means is one document, and none where it is refused.
use Rattle.std.proofs.Common.{◌≡◌, ℕ, List, sym, ap, ◌∙◌}
use Rattle.tc_model.specs.Stripped.{stripped}
use Rattle.tc_model.specs.Trees.{Trees}
use Rattle.tc_model.proofs.XmlTextTrees.{one_raw_tree}
use Rattle.tc_print.specs.ReadBack.{IsReadAs}
use Rattle.tc_read.proofs.OtherEntities.{with_others}
use Rattle.tc_read.specs.Refusals.{IsRefusedDocument}
use Rattle.tc_read.specs.declared.faults.Reason.{Reason}
use Rattle.tc_read.specs.declared.faults.Reason.TheVariants.{Malformed, Unsupported, TooDeep, Undefined, Twice, Loop, BadStart, BadExcept, CallLoop}

pub no_document : {bytes : List ℕ} {d : Trees} (reason : Reason) (place : ℕ) → IsRefusedDocument bytes reason place → IsReadAs bytes d → ⊥
no_document Malformed place r x = r.1 _ x.raw (with_others x.spells)
no_document (Unsupported why) place r x = r.1 _ x.raw x.spells
no_document TooDeep place r x = r.1 x.raw (with_others x.spells)
no_document Undefined place r x = r
no_document Twice place r x = r
no_document Loop place r x = r
no_document BadStart place r x = r
no_document BadExcept place r x = r
no_document CallLoop place r x = r

-- a text has one document
pub one_document : {bytes : List ℕ} {c d : Trees} → IsReadAs bytes c → IsReadAs bytes d → c ≡ d
one_document {bytes} x y = sym x.document ∙ (ap stripped (one_raw_tree bytes x.raw y.raw x.spells y.spells) ∙ y.document)
