use Rattle.std.proofs.Common.{◌≡◌, ◌∙◌, [], ap, bytes_eq}
use Rattle.tc_tags.specs.Spans.{at_span}
use Rattle.tc_stream.proofs.EnterLaws.{long_plain, long_prefixed}
use Rattle.tc_stream.proofs.elements.whole.Goals as goal

pub returns-then-eq-clause-length : goal.returns-then-eq-clause-length
returns-then-eq-clause-length c = λ n h.
    let f = c.args.name.now in
    let prefix : c.of-prefix.result.now ≡ n.prefix = c.of-prefix.ensures ∙ (ap (at_span f.prefix) c.as_bytes-bytes.ensures.value ∙ h.prefix) in
    let local : c.of-local.result.now ≡ n.local = c.of-local.ensures ∙ (ap (at_span f.local) c.as_bytes-bytes.ensures.value ∙ h.local) in
    long_plain n c.of-local.result.now (c.if-eq.ensures ∙ (ap (bytes_eq c.of-prefix.result.now) c.as_slice.ensures ∙ ap (λ z. bytes_eq z []) prefix)) local

pub returns-clause-length : goal.returns-clause-length
returns-clause-length c = λ n h.
    let f = c.args.name.now in
    let prefix : c.of-prefix.result.now ≡ n.prefix = c.of-prefix.ensures ∙ (ap (at_span f.prefix) c.as_bytes-bytes.ensures.value ∙ h.prefix) in
    let local : c.of-local.result.now ≡ n.local = c.of-local.ensures ∙ (ap (at_span f.local) c.as_bytes-bytes.ensures.value ∙ h.local) in
    long_prefixed n c.of-prefix.result.now c.of-local.result.now (c.if-eq.ensures ∙ (ap (bytes_eq c.of-prefix.result.now) c.as_slice.ensures ∙ ap (λ z. bytes_eq z []) prefix)) prefix local
