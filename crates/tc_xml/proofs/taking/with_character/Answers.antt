use Rattle.tc_tags.proofs.FailedLaws.{failed_some}
use Rattle.tc_xml.proofs.taking.with_character.Goals as goal

pub returns-in_err-text : goal.returns-in_err-text
returns-in_err-text c = failed_some _ _ c.from_residual.ensures
