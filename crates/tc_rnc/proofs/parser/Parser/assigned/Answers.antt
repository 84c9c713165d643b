use Rattle.tc_rnc.specs.Blocks.{assigned}
use Rattle.tc_rnc.specs.Stops.{no_operator, body}
use Rattle.tc_rnc.proofs.RefusalLaws.{refuses_map, passed}
use Rattle.tc_rnc.proofs.UnreadLaws.{unread_ok}
use Rattle.tc_rnc.proofs.parser.Parser.assigned.Goals as goal

pub returns-in_default-clause-no : goal.returns-in_default-clause-no
returns-in_default-clause-no c = refuses_map c.unexpected.ensures (λ x y. no_operator c.in_default.ensures y)

pub returns-in_err-body-clause-no : goal.returns-in_err-body-clause-no
returns-in_err-body-clause-no c = passed _ _ c.from_residual.ensures.1 c.in_err-body.ensures.no (λ x y. body c.in-Some.ensures y)

pub returns-clause-ok : goal.returns-clause-ok
returns-clause-ok c = assigned c.in-Some.ensures c.in_ok-body.ensures.ok

pub returns-in_err-body-clause-ok : goal.returns-in_err-body-clause-ok
returns-in_err-body-clause-ok c = unread_ok _ _ _ c.from_residual.ensures.1
