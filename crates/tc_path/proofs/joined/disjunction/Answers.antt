use Rattle.std.proofs.Common.{sym, ◌∙◌, length}
use Rattle.tc_path.proofs.Conjunctions.{many_any, not_none, none_any, one_any}
use Rattle.std.proofs.lemmas.List.{nil_from_length}
use Rattle.std.proofs.lemmas.Bool.{eqb-true}
use Rattle.tc_path.proofs.joined.disjunction.Goals as goal

pub returns-else-is_empty : goal.returns-else-is_empty
returns-else-is_empty c = many_any c.args.tests c.in-Some.first.now c.in-Some.rest.now c.in-Some.ensures.cases.0 (not_none c.in-Some.rest.now (sym c.is_empty.ensures ∙ c.if-is_empty.false))

pub returns-in_default : goal.returns-in_default
returns-in_default c = none_any c.args.tests.now (nil_from_length c.args.tests.now c.in_default.ensures.cases)

pub returns-then-is_empty : goal.returns-then-is_empty
returns-then-is_empty c = one_any c.args.tests.now c.in-Some.first.now c.in-Some.rest.now c.in-Some.ensures.cases.0 (nil_from_length c.in-Some.rest.now (eqb-true (length c.in-Some.rest.now) 0 (sym c.is_empty.ensures ∙ c.if-is_empty.true)))
