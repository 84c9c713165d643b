use Rattle.std.proofs.lemmas.Option.{IfSome_then}
use Rattle.tc_tags.proofs.FailedLaws.{failed_some}
use Rattle.tc_xml.proofs.TakingLaws.{takes_both, takes_one}
use Rattle.tc_xml.proofs.taking.start_element.Goals as goal

pub returns-clause-taken : goal.returns-clause-taken
returns-clause-taken g c = IfSome_then c.start.result c.start.ensures (λ u k. takes_both c.in_ok-end_run.ensures.taken (takes_one k))

pub returns-clause-ended : goal.returns-clause-ended
returns-clause-ended g c = IfSome_then c.start.result c.start.ensures (λ u k. c.in_ok-end_run.ensures.ended)

pub returns-in_err-end_run-clause-taken : goal.returns-in_err-end_run-clause-taken
returns-in_err-end_run-clause-taken g c = failed_some _ _ c.from_residual.ensures

pub returns-in_err-end_run-clause-ended : goal.returns-in_err-end_run-clause-ended
returns-in_err-end_run-clause-ended g c = failed_some _ _ c.from_residual.ensures
