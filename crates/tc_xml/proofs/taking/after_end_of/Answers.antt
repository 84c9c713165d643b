use Rattle.tc_xml.proofs.EndTagLaws.{if_some}
use Rattle.tc_xml.proofs.TakingLaws.{end_within}
use Rattle.tc_xml.proofs.taking.after_end_of.Goals as goal

pub returns-in-None-clause-shorter : goal.returns-in-None-clause-shorter
returns-in-None-clause-shorter c = if_some _ _ _ c.after_end_tag.result c.after_end_tag.ensures (λ r e. end_within e)
