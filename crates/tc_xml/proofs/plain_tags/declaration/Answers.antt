use Rattle.tc_tags.proofs.FailedLaws.{failed_some}
use Rattle.tc_xml.proofs.plain_tags.declaration.Goals as goal

pub returns : goal.returns
returns c = record { uri = c.in-Ok.uri.now; quoted = c.in-Ok.ensures.ok; lawful = c.if-not-is_lawful.ensures; binds = c.in_ok-bind.ensures }

pub returns-in_err-bind : goal.returns-in_err-bind
returns-in_err-bind c = failed_some _ _ c.from_residual.ensures
