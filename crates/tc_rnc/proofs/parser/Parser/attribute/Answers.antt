use Rattle.tc_rnc.specs.Readings.{labelled}
use Rattle.tc_rnc.specs.Stops.{label, text}
use Rattle.tc_rnc.proofs.RefusalLaws.{passed, passes, map_ok}
use Rattle.tc_rnc.proofs.UnreadLaws.{unread_ok}
use Rattle.tc_rnc.proofs.parser.Parser.attribute.Goals as goal

pub returns-in_err-rest-clause-no : goal.returns-in_err-rest-clause-no
returns-in_err-rest-clause-no c = passed _ _ c.from_residual.ensures.1 c.in_err-rest.ensures.no (λ v y. label y)

pub returns-clause-ok : goal.returns-clause-ok
returns-clause-ok c = map_ok _ _ c.braced_text.result (λ r m. labelled c.in_ok-rest.ensures.ok m) c.braced_text.ensures.ok

pub returns-clause-no : goal.returns-clause-no
returns-clause-no c = passes c.braced_text.result c.braced_text.ensures.no (λ v y. text c.in_ok-rest.ensures.ok y)

pub returns-in_err-rest-clause-ok : goal.returns-in_err-rest-clause-ok
returns-in_err-rest-clause-ok c = unread_ok _ _ _ c.from_residual.ensures.1
