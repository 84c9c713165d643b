use Rattle.std.proofs.lemmas.Option.{IfSome_then}
use Rattle.tc_tags.proofs.FailedLaws.{failed_some}
use Rattle.tc_xml.proofs.taking.leave.Goals as goal

pub returns-clause-taken : goal.returns-clause-taken
returns-clause-taken g c = IfSome_then c.take_back.result c.take_back.ensures.bindings (λ u k. c.in_ok-end.ensures)

pub returns-in_err-end-clause-taken : goal.returns-in_err-end-clause-taken
returns-in_err-end-clause-taken g c = failed_some _ _ c.from_residual.ensures

pub returns-in_err-end-clause-bindings : goal.returns-in_err-end-clause-bindings
returns-in_err-end-clause-bindings g c = failed_some _ _ c.from_residual.ensures

pub returns-in_err-end-clause-right : goal.returns-in_err-end-clause-right
returns-in_err-end-clause-right g c = λ right. failed_some _ _ c.from_residual.ensures
