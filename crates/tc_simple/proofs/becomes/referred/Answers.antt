use Rattle.std.proofs.Common.{◌∙◌, ap, Some, None, get_or}
use Rattle.tc_model.specs.Grammars as g
use Rattle.tc_model.specs.Views as seen
use Rattle.tc_model.specs.declared.grammar.Pat.TheVariants.{NotAllowed}
use Rattle.tc_model.proofs.ViewsGrammar.{see_not_allowed}
use Rattle.tc_simple.proofs.becomes.referred.Goals as goal

pub returns-in-None : goal.returns-in-None
returns-in-None c = see_not_allowed ∙ ap (λ k. elim k as (λ _. g.Pattern) [ Some i ↦ seen.pattern (get_or c.args.made.now i NotAllowed) | None ↦ g.not_allowed ]) c.in-None.ensures
