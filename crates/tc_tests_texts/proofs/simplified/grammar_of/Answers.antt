use Rattle.tc_model.proofs.SimplifiesLawful.{lawful_syntax}
use Rattle.tc_rnc.specs.Views.{syntax}
use Rattle.tc_tests_texts.proofs.simplified.grammar_of.Goals as goal

pub simplify-requires : goal.simplify-requires
simplify-requires c = (lawful_syntax c.as_bytes.result.now (syntax c.in-Ok.syntax) c.in-Ok.ensures.ok).0
