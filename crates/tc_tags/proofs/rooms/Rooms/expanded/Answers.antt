use Rattle.std.proofs.Common.{◌∙◌, ap, sym, subst, IsUtf8, bytes_eq}
use Rattle.tc_tags.specs.Spans.{at_span}
use Rattle.tc_tags.proofs.ElementLaws.{named_by, unnamed, no_name}
use Rattle.tc_tags.proofs.rooms.Rooms.expanded.Goals as goal

pub returns-in-Some : goal.returns-in-Some
returns-in-Some c = λ scope local_text texts binds.
    let names = c.args.self.now.names.bytes.items in
    let local = at_span c.args.name.now.local c.args.tag.now in
    let whole = c.named.ensures ∙ c.in-Some.ensures in
    named_by names c.args.self.now.scopes.declared.items scope binds (at_span c.args.name.now.prefix c.args.tag.now) local c.of-prefix.result.now c.named.result.now c.text_of.result.now c.text_of-local.result.now
    c.of-prefix.ensures whole (c.text_of.ensures.whole (texts c.of-prefix.result.now c.named.result.now (sym whole))) (c.text_of-local.ensures.whole (subst IsUtf8 (sym c.of.ensures) local_text) ∙ c.of.ensures)

pub returns-then-eq : goal.returns-then-eq
returns-then-eq c = λ scope local_text texts binds.
    let names = c.args.self.now.names.bytes.items in
    let local = at_span c.args.name.now.local c.args.tag.now in
    unnamed names c.args.self.now.scopes.declared.items scope binds (at_span c.args.name.now.prefix c.args.tag.now) local c.of-prefix.result.now c.text_of-local.result.now
    c.of-prefix.ensures c.in-None.ensures (c.if-eq.ensures ∙ ap (bytes_eq c.of-prefix.result.now) c.as_slice.ensures) (c.text_of-local.ensures.whole (subst IsUtf8 (sym c.of.ensures) local_text) ∙ c.of.ensures)

pub returns-else-eq : goal.returns-else-eq
returns-else-eq c = λ scope local_text texts binds n.
    let names = c.args.self.now.names.bytes.items in
    let local = at_span c.args.name.now.local c.args.tag.now in
    no_name names c.args.self.now.scopes.declared.items scope binds (at_span c.args.name.now.prefix c.args.tag.now) local c.of-prefix.result.now
    c.of-prefix.ensures c.in-None.ensures (c.if-eq.ensures ∙ ap (bytes_eq c.of-prefix.result.now) c.as_slice.ensures) n
