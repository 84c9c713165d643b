use Rattle.std.proofs.Common.{◌∙◌, ap}
use Rattle.tc_model.specs.Grammars as g
use Rattle.tc_model.specs.Views as seen
use Rattle.tc_model.specs.declared.grammar.Pat.{Pat}
use Rattle.tc_model.proofs.ViewsGrammar.{see_one_or_more}
use Rattle.tc_dtd.proofs.patterns.repeated.Goals as goal

pub returns : goal.returns
returns c = see_one_or_more _ ∙ ap (λ (z : Pat). g.one_or_more (seen.pattern z)) c.in_ok-pattern.ensures
