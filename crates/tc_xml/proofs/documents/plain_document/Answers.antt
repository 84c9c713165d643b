use Rattle.std.proofs.lemmas.Option.{IfSome_then}
use Rattle.tc_model.specs.Stripped.{stripped}
use Rattle.tc_tags.proofs.FailedLaws.{failed_some}
use Rattle.tc_xml.proofs.BuildingLaws.{built}
use Rattle.tc_xml.proofs.documents.plain_document.Goals as goal

pub returns : goal.returns
returns c = let (h, x, takes) = c.in_ok-built.ensures in IfSome_then c.tree.result c.tree.ensures (λ n is. (h, x, built (stripped h) n c.new.ensures takes is))

pub returns-in_err-built : goal.returns-in_err-built
returns-in_err-built c = failed_some _ _ c.from_residual.ensures
