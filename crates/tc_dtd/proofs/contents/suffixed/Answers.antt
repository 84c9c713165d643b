use Rattle.std.proofs.Common.{ap, ◌∙◌}
use Rattle.tc_dtd.specs.Declarations as d
use Rattle.tc_dtd.specs.Views.{particle}
use Rattle.tc_dtd.proofs.ContentsLaws.{a_question, an_asterisk, a_plus, lacks_suffix}
use Rattle.tc_dtd.proofs.ViewsLaws.{see_optional, see_star, see_plus}
use Rattle.tc_dtd.proofs.contents.suffixed.Goals as goal

pub returns-in-Some : goal.returns-in-Some
returns-in-Some c =
    a_question (particle c.args.inner) _ c.args.text.now c.in-Some.rest.now c.in-Some.ensures (see_optional _ ∙ ap (λ w. d.optional (particle w)) c.in_ok-inner.ensures)

pub returns-in-Some-after_byte : goal.returns-in-Some-after_byte
returns-in-Some-after_byte c =
    an_asterisk (particle c.args.inner) _ c.args.text.now c.in-Some-after_byte.rest.now c.in-Some-after_byte.ensures (see_star _ ∙ ap (λ w. d.zero_or_more (particle w)) c.in_ok-inner-2.ensures)

pub returns-in-Some-after_byte-2 : goal.returns-in-Some-after_byte-2
returns-in-Some-after_byte-2 c =
    a_plus (particle c.args.inner) _ c.args.text.now c.in-Some-after_byte-2.rest.now c.in-Some-after_byte-2.ensures (see_plus _ ∙ ap (λ w. d.one_or_more (particle w)) c.in_ok-inner-3.ensures)

pub returns : goal.returns
returns c = lacks_suffix (particle c.args.inner) c.args.text.now c.in_default.ensures c.in_default-after_byte.ensures c.in_default-after_byte-2.ensures
