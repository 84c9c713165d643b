use Rattle.tc_rnc.proofs.DefinitionLaws.{operator_equals, operator_bar, operator_ampersand}
use Rattle.tc_rnc.proofs.definitions.operator.Goals as goal

pub returns-then-is_mark : goal.returns-then-is_mark
returns-then-is_mark c = operator_equals c.in_ok-first.ensures c.if-is_mark.ensures

pub returns-then-is_mark-2 : goal.returns-then-is_mark-2
returns-then-is_mark-2 c = operator_bar c.in_ok-first.ensures c.if-is_mark-2.ensures c.in_ok-after.ensures

pub returns-then-is_mark-3 : goal.returns-then-is_mark-3
returns-then-is_mark-3 c = operator_ampersand c.in_ok-first.ensures c.if-is_mark-3.ensures c.in_ok-after-2.ensures
