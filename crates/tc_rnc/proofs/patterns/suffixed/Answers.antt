use Rattle.std.proofs.Common.{◌∙◌, ap, sym, Bor}
use Rattle.tc_model.specs.CompactSyntaxTrees as tree
use Rattle.tc_model.specs.CompactSyntaxPatterns as p
use Rattle.tc_rnc.specs.Connectors as view
use Rattle.tc_rnc.specs.Views as seen
use Rattle.tc_rnc.specs.declared.syntax.SPat.{SPat}
use Rattle.tc_rnc.proofs.Views.{see_optional, see_zero_or_more, see_one_or_more}
use Rattle.tc_rnc.proofs.patterns.suffixed.Goals as goal

pub returns-in-QuestionMark-clause-ok : goal.returns-in-QuestionMark-clause-ok
returns-in-QuestionMark-clause-ok c =
    let box : Bor SPat = record { ref_ptr = c.in_ok-inner.field-0.ref_ptr; now = c.in_ok-inner.field-0.now } in
    see_optional box ∙ (ap (λ z. tree.optional (seen.pattern z)) c.in_ok-inner.ensures ∙ sym (ap (λ z. p.suffixed (view.suffix z) (seen.pattern c.args.inner)) c.in-QuestionMark.is))

pub returns-in-Asterisk-clause-ok : goal.returns-in-Asterisk-clause-ok
returns-in-Asterisk-clause-ok c =
    let box : Bor SPat = record { ref_ptr = c.in_ok-inner.field-0.ref_ptr; now = c.in_ok-inner.field-0.now } in
    see_zero_or_more box ∙ (ap (λ z. tree.zero_or_more (seen.pattern z)) c.in_ok-inner.ensures ∙ sym (ap (λ z. p.suffixed (view.suffix z) (seen.pattern c.args.inner)) c.in-Asterisk.is))

pub returns-in-PlusSign-clause-ok : goal.returns-in-PlusSign-clause-ok
returns-in-PlusSign-clause-ok c =
    let box : Bor SPat = record { ref_ptr = c.in_ok-inner.field-0.ref_ptr; now = c.in_ok-inner.field-0.now } in
    see_one_or_more box ∙ (ap (λ z. tree.one_or_more (seen.pattern z)) c.in_ok-inner.ensures ∙ sym (ap (λ z. p.suffixed (view.suffix z) (seen.pattern c.args.inner)) c.in-PlusSign.is))
