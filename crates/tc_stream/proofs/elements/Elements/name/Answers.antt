use Rattle.std.proofs.Common.{◌-◌, ◌∙◌, [], List, ap, sym, subst, length, slice_get}
use Rattle.tc_model.specs.XmlTextNames.{QNameAt}
use Rattle.tc_tags.specs.Spans.{at_span}
use Rattle.tc_stream.specs.declared.elements.Level as code
use Rattle.tc_stream.proofs.KeepsLaws.{innermost, some_open}
use Rattle.tc_stream.proofs.elements.Elements.name.Goals as goal

pub returns-in-Some-clause-written : goal.returns-in-Some-clause-written
returns-in-Some-clause-written c = λ l ls scope k.
    let level = c.in-Some.level.now in
    let at = c.in-Some.ensures.value ∙ ap (λ (z : List code.Level). slice_get z (length z - 1)) c.deref.ensures.value in
    c.of.ensures ∙ (ap (at_span level.name) c.bytes.ensures ∙ (innermost level k at).written)

pub returns-in-Some-clause-named : goal.returns-in-Some-clause-named
returns-in-Some-clause-named c = λ l ls scope k.
    let level = c.in-Some.level.now in
    let at = c.in-Some.ensures.value ∙ ap (λ (z : List code.Level). slice_get z (length z - 1)) c.deref.ensures.value in
    let inner = innermost level k at in
    subst (λ z. QNameAt z l.written.name []) (sym (c.of.ensures ∙ (ap (at_span level.name) c.bytes.ensures ∙ inner.written))) inner.named

pub returns-in-None-clause-written : goal.returns-in-None-clause-written
returns-in-None-clause-written c = λ l ls scope k. absurd (some_open k (c.in-None.ensures.value ∙ ap (λ (z : List code.Level). slice_get z (length z - 1)) c.deref.ensures.value))

pub returns-in-None-clause-named : goal.returns-in-None-clause-named
returns-in-None-clause-named c = λ l ls scope k. absurd (some_open k (c.in-None.ensures.value ∙ ap (λ (z : List code.Level). slice_get z (length z - 1)) c.deref.ensures.value))
