use Rattle.std.proofs.Common.{◌++◌, ◌∙◌, ap, sym, subst, refl, arith, List, length, length-append}
use Rattle.tc_model.specs.XmlTextScopes.{WrittenAttribute}
use Rattle.tc_tags.specs.Spans.{at_span}
use Rattle.tc_tags.specs.Written.{AreWritten, Adds}
use Rattle.tc_tags.proofs.AddingLaws.{kept_behind}
use Rattle.tc_tags.proofs.rooms.Rooms.add_names.Goals as goal

pub returns-then-not-push_all-clause-added : goal.returns-then-not-push_all-clause-added
returns-then-not-push_all-clause-added c = λ ws are.
    let full = c.if-not-push_all.ensures.bytes.1 in
    let long = ap length (c.of-written.ensures ∙ ap (at_span c.args.name) c.as_bytes.ensures.value) in
    omega (arith, full, long)

pub add_all-requires-clause-room : goal.add_all-requires-clause-room
add_all-requires-clause-room c = let many = ap length c.list-attributes.ensures in let room = c.requires.room in omega (arith, many, room)

pub add_all-requires-clause-kept : goal.add_all-requires-clause-kept
add_all-requires-clause-kept c = kept_behind c.of-written.result.now c.requires.kept c.if-not-push_all.ensures.bytes

pub add_all-requires-clause-written : goal.add_all-requires-clause-written
add_all-requires-clause-written c = subst (λ w. (ws : List WrittenAttribute) × AreWritten c.args.tag.now w ws) (sym c.list-attributes.ensures) c.requires.written

pub returns-then-add_all-clause-kept : goal.returns-then-add_all-clause-kept
returns-then-add_all-clause-kept c = c.if-add_all.ensures.kept refl

pub returns-then-add_all-clause-name : goal.returns-then-add_all-clause-name
returns-then-add_all-clause-name c = (c.len-start.ensures, ap length (c.of-written.ensures ∙ ap (at_span c.args.name) c.as_bytes.ensures.value))

pub returns-then-add_all-clause-added : goal.returns-then-add_all-clause-added
returns-then-add_all-clause-added c = λ ws are.
    let old = c.args.self.now.names.bytes.items in
    let same = c.of-written.ensures ∙ ap (at_span c.args.name) c.as_bytes.ensures.value in
    subst (λ z. Adds ws z c.add_all.new.names.bytes.items c.args.self.now.scopes.declared.items c.add_all.new.scopes.declared.items) (c.if-not-push_all.ensures.bytes ∙ ap (λ w. old ++ w) same)
    (c.if-add_all.ensures.added ws (subst (λ w. AreWritten c.args.tag.now w ws) (sym c.list-attributes.ensures) are))

pub returns-else-add_all-clause-added : goal.returns-else-add_all-clause-added
returns-else-add_all-clause-added c = λ ws are.
    let old = c.args.self.now.names.bytes.items in
    let full = c.if-add_all.ensures.added ws (subst (λ w. AreWritten c.args.tag.now w ws) (sym c.list-attributes.ensures) are) in
    let most = c.push_all.ensures.most in
    let long = ap length c.if-not-push_all.ensures.bytes ∙ length-append old c.of-written.result.now in
    let same = ap length (c.of-written.ensures ∙ ap (at_span c.args.name) c.as_bytes.ensures.value) in
    omega (arith, full, most, long, same)

pub returns-then-not-push_all-clause-most : goal.returns-then-not-push_all-clause-most
returns-then-not-push_all-clause-most c = c.push_all.ensures.most

pub returns-then-not-push_all-clause-attributes : goal.returns-then-not-push_all-clause-attributes
returns-then-not-push_all-clause-attributes c = refl

pub returns-then-not-push_all-clause-kept : goal.returns-then-not-push_all-clause-kept
returns-then-not-push_all-clause-kept c = tt

pub returns-then-not-push_all-clause-name : goal.returns-then-not-push_all-clause-name
returns-then-not-push_all-clause-name c = tt

pub returns-then-add_all-clause-most : goal.returns-then-add_all-clause-most
returns-then-add_all-clause-most c = c.add_all.ensures.most ∙ c.push_all.ensures.most

pub returns-then-add_all-clause-attributes : goal.returns-then-add_all-clause-attributes
returns-then-add_all-clause-attributes c = refl

pub returns-else-add_all-clause-most : goal.returns-else-add_all-clause-most
returns-else-add_all-clause-most c = c.add_all.ensures.most ∙ c.push_all.ensures.most

pub returns-else-add_all-clause-attributes : goal.returns-else-add_all-clause-attributes
returns-else-add_all-clause-attributes c = refl

pub returns-else-add_all-clause-kept : goal.returns-else-add_all-clause-kept
returns-else-add_all-clause-kept c = tt

pub returns-else-add_all-clause-name : goal.returns-else-add_all-clause-name
returns-else-add_all-clause-name c = tt
