use Rattle.std.proofs.Common.{◌∙◌, [], ap, Some, bytes_eq}
use Rattle.std.specs.Prelude.{unwrap_or}
use Rattle.tc_tags.specs.Scoped.{bound_bytes}
use Rattle.tc_tags.specs.Spans.{at_span}
use Rattle.tc_tags.proofs.ListedLaws.{uri_bound}
use Rattle.tc_tags.proofs.attributes.Attribute.uri.Goals as goal

pub returns-in-Some : goal.returns-in-Some
returns-in-Some c =
    let names = c.args.names.now.bytes.items in
    ap (λ o. unwrap_or o []) c.named.ensures
    ∙ uri_bound names c.args.scopes.now.declared.items c.of-prefix.result.now (at_span c.args.self.now.prefix c.args.tag.now) (bound_bytes names (Some c.in-Some.bound)) c.of-prefix.ensures
    (c.if-eq.ensures ∙ ap (bytes_eq c.of-prefix.result.now) c.as_slice.ensures) c.in-Some.ensures
