use Rattle.std.proofs.Common.{◌∙◌, sym, arith}
use Rattle.tc_dtd.specs.Views as see
use Rattle.tc_dtd.proofs.BuiltLaws.{number_within, undeclared}
use Rattle.tc_model.proofs.ViewsGrammar.{see_not_allowed}
use Rattle.tc_dtd.proofs.patterns.reference.Goals as goal

pub overflow_cast-result : goal.overflow_cast-result
overflow_cast-result c = omega (arith, number_within (see.names c.args.found.now.keys) c.args.name.now c.in-Some.number (sym c.number_of.ensures ∙ c.in-Some.is), c.requires)

pub overflow_add-result : goal.overflow_add-result
overflow_add-result c = omega (arith, number_within (see.names c.args.found.now.keys) c.args.name.now c.in-Some.number (sym c.number_of.ensures ∙ c.in-Some.is), c.requires)

pub returns-in-None : goal.returns-in-None
returns-in-None c = see_not_allowed ∙ undeclared (see.names c.args.found.now.keys) c.args.name.now (sym c.number_of.ensures ∙ c.in-None.is)
