use Rattle.std.proofs.Common.{◌≡◌, ◌-◌, ◌++◌, ◌∙◌, ap, sym, subst, refl, arith, length, true, false}
use Rattle.std.proofs.lemmas.Bool.{true≢false}
use Rattle.tc_model.specs.XmlTextReferences.{ValueAt}
use Rattle.tc_tags.specs.Listed.{is_declared, declared_prefix}
use Rattle.tc_tags.specs.Spans.{at_span}
use Rattle.tc_tags.proofs.AddingLaws.{adds_nothing, adds_one, full_prefix, full_value, chained_more, kept_more}
use Rattle.tc_tags.specs.declared.scopes.Declared.{Declared}
use Rattle.tc_tags.proofs.rooms.add_declared.Goals as goal

pub returns-in_default-clause-added : goal.returns-in_default-clause-added
returns-in_default-clause-added c =
    let a = c.args.attribute.now in
    let not = subst (λ z. is_declared (at_span a.prefix z) (at_span a.local z) ≡ false) c.as_bytes.ensures.value c.in_default.ensures in
    adds_nothing c.args.tag.now a c.args.names.now.bytes.items c.args.scopes.now.declared.items not

pub returns-then-not-push_all-clause-kept : goal.returns-then-not-push_all-clause-kept
returns-then-not-push_all-clause-kept c = λ e. absurd (true≢false (sym e))

pub returns-then-not-push_all-clause-added : goal.returns-then-not-push_all-clause-added
returns-then-not-push_all-clause-added c =
    let a = c.args.attribute.now in
    let is = subst (λ z. is_declared (at_span a.prefix z) (at_span a.local z) ≡ true) c.as_bytes.ensures.value c.in-Some.ensures.0 in
    let prefix = c.in-Some.ensures.1 ∙ ap (λ z. declared_prefix (at_span a.prefix z) (at_span a.local z)) c.as_bytes.ensures.value in
    λ w h. full_prefix c.args.tag.now a is c.in-Some.declared.now prefix c.args.names.now.bytes.items c.args.names.now.most w h c.if-not-push_all.ensures.bytes.1

pub range_from-requires : goal.range_from-requires
range_from-requires c = λ _. c.requires.written.1.cut

pub push_value-requires : goal.push_value-requires
push_value-requires c = c.requires.written.1.is_quote

pub returns-then-not-push_value-clause-kept : goal.returns-then-not-push_value-clause-kept
returns-then-not-push_value-clause-kept c = λ e. absurd (true≢false (sym e))

pub returns-then-not-push_value-clause-added : goal.returns-then-not-push_value-clause-added
returns-then-not-push_value-clause-added c =
    let a = c.args.attribute.now in
    let is = subst (λ z. is_declared (at_span a.prefix z) (at_span a.local z) ≡ true) c.as_bytes.ensures.value c.in-Some.ensures.0 in
    let prefix = c.in-Some.ensures.1 ∙ ap (λ z. declared_prefix (at_span a.prefix z) (at_span a.local z)) c.as_bytes.ensures.value in
    λ w h. full_value c.args.tag.now a is c.in-Some.declared.now prefix c.args.names.now.bytes.items c.push_all.new.self.bytes.items c.args.names.now.most c.push_all.new.self.most w h c.if-not-push_all.ensures.bytes c.push_all.ensures.most
    (c.if-not-push_value.ensures.bytes w.value h.after (subst (λ z. ValueAt false c.args.attribute.now.quote z w.value h.after) (sym c.range_from.ensures.value) h.value))

pub declare-requires-clause-chained : goal.declare-requires-clause-chained
declare-requires-clause-chained c =
    let (w, h) = c.requires.written in
    chained_more c.in-Some.declared.now w.value c.requires.kept (c.if-not-push_value.ensures.bytes w.value h.after (subst (λ z. ValueAt false c.args.attribute.now.quote z w.value h.after) (sym c.range_from.ensures.value) h.value) ∙ ap (λ z. z ++ w.value) c.if-not-push_all.ensures.bytes)

pub returns-clause-kept : goal.returns-clause-kept
returns-clause-kept c = λ _.
    let (w, h) = c.requires.written in
    let a = c.args.attribute.now in
    let is = subst (λ z. is_declared (at_span a.prefix z) (at_span a.local z) ≡ true) c.as_bytes.ensures.value c.in-Some.ensures.0 in
    let prefix = c.in-Some.ensures.1 ∙ ap (λ z. declared_prefix (at_span a.prefix z) (at_span a.local z)) c.as_bytes.ensures.value in
    let d : Declared = record { prefix = record { start = c.len-start.result; length = length c.in-Some.declared.now }; uri = record { start = c.len-start-2.result; length = c.len.result - c.len-start-2.result } } in
    kept_more c.requires.kept (
    adds_one c.args.tag.now a is c.in-Some.declared.now prefix c.args.names.now.bytes.items c.push_all.new.self.bytes.items c.push_value.new.names.bytes.items c.args.scopes.now.declared.items c.declare.new.self.declared.items d w h
    c.if-not-push_all.ensures.bytes (c.if-not-push_value.ensures.bytes w.value h.after (subst (λ z. ValueAt false c.args.attribute.now.quote z w.value h.after) (sym c.range_from.ensures.value) h.value)) c.len-start.ensures refl c.len-start-2.ensures (omega (arith, c.len.ensures, c.len-start-2.ensures)) c.declare.ensures.declared
    ) c.declare.ensures.chained

pub returns-clause-added : goal.returns-clause-added
returns-clause-added c = λ w h.
    let a = c.args.attribute.now in
    let is = subst (λ z. is_declared (at_span a.prefix z) (at_span a.local z) ≡ true) c.as_bytes.ensures.value c.in-Some.ensures.0 in
    let prefix = c.in-Some.ensures.1 ∙ ap (λ z. declared_prefix (at_span a.prefix z) (at_span a.local z)) c.as_bytes.ensures.value in
    let d : Declared = record { prefix = record { start = c.len-start.result; length = length c.in-Some.declared.now }; uri = record { start = c.len-start-2.result; length = c.len.result - c.len-start-2.result } } in
    adds_one c.args.tag.now a is c.in-Some.declared.now prefix c.args.names.now.bytes.items c.push_all.new.self.bytes.items c.push_value.new.names.bytes.items c.args.scopes.now.declared.items c.declare.new.self.declared.items d w h
    c.if-not-push_all.ensures.bytes (c.if-not-push_value.ensures.bytes w.value h.after (subst (λ z. ValueAt false c.args.attribute.now.quote z w.value h.after) (sym c.range_from.ensures.value) h.value)) c.len-start.ensures refl c.len-start-2.ensures (omega (arith, c.len.ensures, c.len-start-2.ensures)) c.declare.ensures.declared

pub returns-in_default-clause-most : goal.returns-in_default-clause-most
returns-in_default-clause-most c = refl

pub returns-in_default-clause-kept : goal.returns-in_default-clause-kept
returns-in_default-clause-kept c = λ _. c.requires.kept

pub returns-then-not-push_all-clause-most : goal.returns-then-not-push_all-clause-most
returns-then-not-push_all-clause-most c = c.push_all.ensures.most

pub returns-then-not-push_value-clause-most : goal.returns-then-not-push_value-clause-most
returns-then-not-push_value-clause-most c = c.push_value.ensures.most ∙ c.push_all.ensures.most

pub declare-requires-clause-room : goal.declare-requires-clause-room
declare-requires-clause-room c = c.requires.room

pub returns-clause-most : goal.returns-clause-most
returns-clause-most c = c.push_value.ensures.most ∙ c.push_all.ensures.most
