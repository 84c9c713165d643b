use Rattle.std.proofs.Common.{◌∙◌, ap}
use Rattle.tc_model.specs.Grammars as g
use Rattle.tc_model.specs.Views as seen
use Rattle.tc_model.specs.Simplifies.{both}
use Rattle.tc_model.proofs.ViewsGrammar.{see_interleave, see_text}
use Rattle.tc_simple.proofs.becomes.mixed.Goals as goal

pub returns : goal.returns
returns c = see_interleave _ ∙ (ap g.interleave c.in_ok-both.ensures ∙ ap (λ z. g.interleave (both z (seen.pattern c.args.pattern))) see_text)
