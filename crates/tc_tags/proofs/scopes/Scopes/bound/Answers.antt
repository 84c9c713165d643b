use Rattle.std.proofs.Common.{◌≡◌, ◌∙◌, ap, sym, reverse, length, ◌==◌}
use Rattle.tc_tags.specs.Spans.{at_span}
use Rattle.tc_tags.proofs.ScopeLaws.{undeclared, declared_to}
use Rattle.tc_tags.proofs.scopes.Scopes.bound.Goals as goal

pub returns-then-is_empty : goal.returns-then-is_empty
returns-then-is_empty c =
    let names = c.args.names.now.bytes.items in
    let there : c.of.result.now ≡ at_span c.in-Some.declared.uri names = c.of.ensures ∙ ap (at_span c.in-Some.declared.uri) c.bytes.ensures in
    undeclared names c.args.prefix.now (reverse c.args.self.now.declared.items) c.in-Some.declared c.in-Some.ensures (ap (λ w. length w == 0) (sym there) ∙ sym c.if-is_empty.ensures)

pub returns-else-is_empty : goal.returns-else-is_empty
returns-else-is_empty c =
    let names = c.args.names.now.bytes.items in
    let there : c.of.result.now ≡ at_span c.in-Some.declared.uri names = c.of.ensures ∙ ap (at_span c.in-Some.declared.uri) c.bytes.ensures in
    declared_to names c.args.prefix.now (reverse c.args.self.now.declared.items) c.in-Some.declared c.in-Some.ensures (ap (λ w. length w == 0) (sym there) ∙ sym c.if-is_empty.ensures)
