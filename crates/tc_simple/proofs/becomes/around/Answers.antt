use Rattle.std.proofs.Common.{◌∙◌, ap, sym}
use Rattle.tc_model.specs.Grammars as g
use Rattle.tc_model.specs.Views as seen
use Rattle.tc_model.specs.Simplifies.{both}
use Rattle.tc_rnc.specs.Views as see
use Rattle.tc_rnc.proofs.Views.{see_mixed, see_optional, see_zero_or_more, see_one_or_more}
use Rattle.tc_simple.specs.Becoming.{around}
use Rattle.tc_simple.proofs.Made.{made_so}
use Rattle.tc_simple.proofs.becomes.around.Goals as goal

pub returns-in-Mixed : goal.returns-in-Mixed
returns-in-Mixed c = made_so c.mixed.result _ (around (see.pattern c.args.syntax.now) (seen.pattern c.args.part)) c.mixed.ensures (sym (ap (λ z. around z (seen.pattern c.args.part)) (ap see.pattern c.in-Mixed.is ∙ see_mixed _)))

pub returns-in-Optional : goal.returns-in-Optional
returns-in-Optional c = made_so c.optional.result _ (around (see.pattern c.args.syntax.now) (seen.pattern c.args.part)) c.optional.ensures (sym (ap (λ z. around z (seen.pattern c.args.part)) (ap see.pattern c.in-Optional.is ∙ see_optional _)))

pub returns-in_ok-repeated-in-ZeroOrMore : goal.returns-in_ok-repeated-in-ZeroOrMore
returns-in_ok-repeated-in-ZeroOrMore c =
    made_so c.optional-in-ZeroOrMore.result _ (around (see.pattern c.args.syntax.now) (seen.pattern c.args.part)) c.optional-in-ZeroOrMore.ensures
    (ap (λ z. g.choice (both z g.empty)) c.in_ok-repeated-in-ZeroOrMore.ensures ∙ sym (ap (λ z. around z (seen.pattern c.args.part)) (ap see.pattern c.in-ZeroOrMore.is ∙ see_zero_or_more _)))

pub returns-in-OneOrMore : goal.returns-in-OneOrMore
returns-in-OneOrMore c =
    made_so c.repeated-in-OneOrMore.result _ (around (see.pattern c.args.syntax.now) (seen.pattern c.args.part)) c.repeated-in-OneOrMore.ensures (sym (ap (λ z. around z (seen.pattern c.args.part)) (ap see.pattern c.in-OneOrMore.is ∙ see_one_or_more _)))
