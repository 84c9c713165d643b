use Rattle.std.proofs.Common.{◌∙◌, [], ap, sym, bytes_eq, reverse}
use Rattle.std.specs.Prelude.{is_some}
use Rattle.tc_model.specs.XmlTextScopes.{is_empty}
use Rattle.tc_tags.specs.Listed.{is_declared}
use Rattle.tc_tags.specs.Scoped.{bound_by}
use Rattle.tc_tags.specs.Spans.{at_span}
use Rattle.tc_tags.proofs.RoomLaws.{declared_is, bound_is_some, means_declared, means_plain, means_named}
use Rattle.tc_tags.proofs.rooms.is_bound.Goals as goal

pub returns-then-is_some : goal.returns-then-is_some
returns-then-is_some c =
    let a = c.args.attribute.now in
    let tag = c.args.tag.now in
    let names = c.args.names.now.bytes.items in
    means_declared (is_declared (at_span a.prefix tag) (at_span a.local tag)) (is_empty (at_span a.prefix tag)) (is_some (bound_by (reverse c.args.scopes.now.declared.items) names (at_span a.prefix tag))) (c.if-is_some.ensures ∙ sym (declared_is c.declares.result (is_declared (at_span a.prefix tag) (at_span a.local tag)) _ c.declares.ensures))

pub returns-then-eq : goal.returns-then-eq
returns-then-eq c =
    let a = c.args.attribute.now in
    let tag = c.args.tag.now in
    let names = c.args.names.now.bytes.items in
    means_plain (is_declared (at_span a.prefix tag) (at_span a.local tag)) (is_empty (at_span a.prefix tag)) (is_some (bound_by (reverse c.args.scopes.now.declared.items) names (at_span a.prefix tag)))
    (c.if-eq.ensures ∙ (ap (bytes_eq c.of-prefix.result.now) c.as_slice.ensures ∙ ap (λ x. bytes_eq x []) c.of-prefix.ensures))

pub returns : goal.returns
returns c =
    let a = c.args.attribute.now in
    let tag = c.args.tag.now in
    let names = c.args.names.now.bytes.items in
    let ds = reverse c.args.scopes.now.declared.items in
    means_named (is_declared (at_span a.prefix tag) (at_span a.local tag)) (is_empty (at_span a.prefix tag)) (is_some (bound_by ds names (at_span a.prefix tag))) c.is_some-2.result
    (c.if-is_some.ensures ∙ sym (declared_is c.declares.result (is_declared (at_span a.prefix tag) (at_span a.local tag)) _ c.declares.ensures))
    (c.if-eq.ensures ∙ (ap (bytes_eq c.of-prefix.result.now) c.as_slice.ensures ∙ ap (λ x. bytes_eq x []) c.of-prefix.ensures))
    (c.is_some-2.ensures ∙ (sym (bound_is_some names c.bound.result) ∙ (ap is_some c.bound.ensures ∙ ap (λ p. is_some (bound_by ds names p)) c.of-prefix.ensures)))
