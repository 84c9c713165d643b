use Rattle.std.proofs.Common.{◌∙◌, ap}
use Rattle.tc_model.specs.Grammars as g
use Rattle.tc_model.specs.Views as seen
use Rattle.tc_model.specs.Simplifies.{both}
use Rattle.tc_model.proofs.ViewsGrammar.{see_choice, see_empty}
use Rattle.tc_simple.proofs.becomes.optional.Goals as goal

pub returns : goal.returns
returns c = see_choice _ ∙ (ap g.choice c.in_ok-either.ensures ∙ ap (λ z. g.choice (both (seen.pattern c.args.pattern) z)) see_empty)
