use Rattle.std.proofs.Common.{◌∙◌, ap, sym, subst, arith, false, Bor}
use Rattle.tc_model.specs.Views.{place}
use Rattle.tc_model.specs.CompactSyntaxTrees as tree
use Rattle.tc_model.specs.CompactSyntaxPatterns as p
use Rattle.tc_model.specs.CompactSyntaxPatterns.{PatternAt, ItemAt, PrimaryAt}
use Rattle.tc_model.specs.CompactSyntaxStops as st
use Rattle.tc_model.proofs.CompactSyntaxBehind.{behind_shorter, item_behind}
use Rattle.tc_rnc.specs.Connectors as view
use Rattle.tc_rnc.specs.Connectors.{BeginsNoneRead}
use Rattle.tc_rnc.specs.Readings.{GoesOn, named}
use Rattle.tc_rnc.specs.Stops.{names, content}
use Rattle.tc_rnc.specs.Scopes.{scope_of}
use Rattle.tc_rnc.specs.Views as seen
use Rattle.tc_rnc.specs.declared.syntax.SPat.{SPat}
use Rattle.tc_rnc.proofs.RefusalLaws.{refuses_map, passed, passes, unmade, unmade_by, at_some, at_none, map_ok}
use Rattle.tc_rnc.proofs.UnreadLaws.{unread_ok}
use Rattle.tc_rnc.proofs.PatternLaws as q
use Rattle.tc_rnc.proofs.ItemLaws as l
use Rattle.tc_rnc.proofs.Views as v
use Rattle.tc_rnc.proofs.parser.Parser.+pattern.Goals as goal

pub element-returns-in_err-names-clause-no : goal.element-returns-in_err-names-clause-no
element-returns-in_err-names-clause-no t c =
    passed _ _ c.from_residual.ensures.1 c.in_err-names.ensures.no (λ x y. names y)

pub element-returns-in_err-content-clause-no : goal.element-returns-in_err-content-clause-no
element-returns-in_err-content-clause-no t c =
    passed _ _ c.from_residual-in_err-content.ensures.1 c.in_err-content.ensures.no (λ x y. content c.in_ok-names.ensures.ok y)

pub element-returns-in_err-content-2-clause-no : goal.element-returns-in_err-content-2-clause-no
element-returns-in_err-content-2-clause-no t c =
    unmade _ _ c.from_residual-in_err-content-2.ensures.1

pub element-returns-clause-ok : goal.element-returns-clause-ok
element-returns-clause-ok t c =
    let box : Bor SPat = record { ref_ptr = c.in_ok-content-2.field-0.ref_ptr; now = c.in_ok-content-2.field-0.now } in (
      seen.class c.in_ok-names.names,
      seen.pattern c.in_ok-content.content,
      v.see_element c.args.place c.in_ok-names.names box ∙ ap (λ z. tree.element (place c.args.place) (seen.class c.in_ok-names.names) (seen.pattern z)) c.in_ok-content-2.ensures,
      named c.in_ok-names.ensures.ok c.in_ok-content.ensures.ok,
    )

pub enclosed-returns-in_err-inside-clause-no : goal.enclosed-returns-in_err-inside-clause-no
enclosed-returns-in_err-inside-clause-no t c =
    passed _ _ c.from_residual.ensures.1 c.in_err-inside.ensures.no (λ x y. q.opening_enclosed y)

pub enclosed-returns-in_err-inner-clause-no : goal.enclosed-returns-in_err-inner-clause-no
enclosed-returns-in_err-inner-clause-no t c =
    passed _ _ c.from_residual-in_err-inner.ensures.1 c.in_err-inner.ensures.no (λ x y. q.enclosed_stops c.in_ok-inside.ensures.depth c.in_ok-inside.ensures.ok y)

pub enclosed-returns-in_default-clause-no : goal.enclosed-returns-in_default-clause-no
enclosed-returns-in_default-clause-no t c =
    refuses_map c.unexpected.ensures (λ x y. q.unclosed_stops c.in_ok-inside.ensures.depth c.in_ok-inside.ensures.ok c.in_ok-inner.ensures.ok c.in_default.ensures y)

pub enclosed-returns-clause-ok : goal.enclosed-returns-clause-ok
enclosed-returns-clause-ok t c =
    q.an_enclosed (scope_of c.args.self.now.scope) c.args.left c.args.right c.args.deepest c.in_ok-inside.deeper (seen.tokens c.args.tokens.now) (seen.tokens c.in_ok-inside.inside.now) (seen.tokens c.in_ok-inner.closing.now) (seen.tokens c.in-Some.after.now)
    (seen.pattern c.in_ok-inner.inner) c.in_ok-inside.ensures.depth c.in_ok-inside.ensures.ok c.in_ok-inner.ensures.ok c.in-Some.ensures

pub particle-returns-in_err-inner-clause-no : goal.particle-returns-in_err-inner-clause-no
particle-returns-in_err-inner-clause-no t c =
    passed _ _ c.from_residual.ensures.1 c.in_err-inner.ensures.no (λ x y. y)

pub particle-returns-in_default-clause-ok : goal.particle-returns-in_default-clause-ok
particle-returns-in_default-clause-ok t c =
    p.bare c.in_ok-inner.ensures.ok c.in_default.ensures

pub particle-returns-in_err-whole-clause-no : goal.particle-returns-in_err-whole-clause-no
particle-returns-in_err-whole-clause-no t c =
    unmade_by _ _ _ c.from_residual-in_err-whole.ensures.1 c.in_err-whole.ensures.no

pub particle-returns-clause-ok : goal.particle-returns-clause-ok
particle-returns-clause-ok t c =
    subst (λ z. ItemAt false (scope_of c.args.self.now.scope) c.args.deepest (seen.tokens c.args.tokens.now) z (seen.tokens c.in-Some.after.now)) (sym c.in_ok-whole.ensures.ok)
    (l.suffixed_item (scope_of c.args.self.now.scope) (view.suffix c.in-Some.suffix) c.args.deepest (seen.tokens c.args.tokens.now) (seen.tokens c.in_ok-inner.rest.now) (seen.tokens c.in-Some.after.now) (seen.pattern c.in_ok-inner.inner) c.in_ok-inner.ensures.ok c.in-Some.ensures)

pub particles-returns-in_err-all-clause-no : goal.particles-returns-in_err-all-clause-no
particles-returns-in_err-all-clause-no t c =
    unmade_by _ _ _ c.from_residual.ensures.1 c.in_err-all.ensures.no

pub particles-loop-all-init : goal.particles-loop-all-init
particles-loop-all-init t c =
    subst (λ z. l.ItemsSoFar (seen.end c.args.self.now.end) (scope_of c.args.self.now.scope) (view.connector c.args.between) c.args.deepest (seen.tokens c.args.tokens.now) (seen.tokens z) c.args.first c.in_ok-all.all.items) (sym c.split_at.ensures.back)
    (l.no_items_yet (seen.end c.args.self.now.end) (scope_of c.args.self.now.scope) (view.connector c.args.between) c.args.deepest (seen.tokens c.args.tokens.now) c.args.first c.in_ok-all.all.items c.in_ok-all.ensures.ok)

pub particles-returns-in_err-next-clause-no : goal.particles-returns-in_err-next-clause-no
particles-returns-in_err-next-clause-no t c =
    passed _ _ c.from_residual-in_err-next.ensures.1 c.in_err-next.ensures.no (λ x y. c.loop-all.invariant.stops x (st.next_item y))

pub particles-returns-in_err-behind-clause-no : goal.particles-returns-in_err-behind-clause-no
particles-returns-in_err-behind-clause-no t c =
    passed _ _ c.from_residual-in_err-behind.ensures.1 c.in_err-behind.ensures.no (λ x y. c.loop-all.invariant.stops x (l.other_connector c.in_ok-next.ensures.ok y.0 y.1))

pub particles-returns-in_default-clause-ok : goal.particles-returns-in_default-clause-ok
particles-returns-in_default-clause-ok t c =
    l.items_done (seen.end c.args.self.now.end) (scope_of c.args.self.now.scope) (view.connector c.args.between) c.args.deepest (seen.tokens c.args.tokens.now) (seen.tokens c.loop-all.rest.now) (seen.tokens c.in_ok-next.after.now) c.args.first c.in_ok-next.next c.loop-all.all.items c.into_bump_slice.result.now c.loop-all.invariant
    c.in_ok-next.ensures.ok (at_none _ _ c.in_ok-behind.field-0 c.in_default.is c.in_ok-behind.ensures.ok) (c.into_bump_slice.ensures ∙ c.in_ok-behind.ensures.items)

pub particles-loop-all-smaller : goal.particles-loop-all-smaller
particles-loop-all-smaller t c =
    let goes : GoesOn (view.connector c.args.between) (seen.tokens c.in_ok-next.after.now) (seen.tokens c.in-Some.behind.now) = at_some _ _ c.in_ok-behind.field-0 c.in-Some.behind c.in-Some.is c.in_ok-behind.ensures.ok in
    omega (arith, behind_shorter (item_behind c.in_ok-next.ensures.ok), l.goes_on_shorter goes)

pub particles-loop-all-preserved : goal.particles-loop-all-preserved
particles-loop-all-preserved t c =
    l.more_items (seen.end c.args.self.now.end) (scope_of c.args.self.now.scope) (view.connector c.args.between) c.args.deepest (seen.tokens c.args.tokens.now) (seen.tokens c.loop-all.rest.now) (seen.tokens c.in_ok-next.after.now) (seen.tokens c.in-Some.behind.now) c.args.first c.in_ok-next.next c.loop-all.all.items c.put_item.new.all.items
    c.loop-all.invariant c.in_ok-next.ensures.ok (at_some _ _ c.in_ok-behind.field-0 c.in-Some.behind c.in-Some.is c.in_ok-behind.ensures.ok) c.in_ok-behind.ensures.items

pub mixed-returns-in_err-content-2-clause-no : goal.mixed-returns-in_err-content-2-clause-no
mixed-returns-in_err-content-2-clause-no t c =
    unmade _ _ c.from_residual-in_err-content-2.ensures.1

pub mixed-returns-clause-ok : goal.mixed-returns-clause-ok
mixed-returns-clause-ok t c =
    let box : Bor SPat = record { ref_ptr = c.in_ok-content-2.field-0.ref_ptr; now = c.in_ok-content-2.field-0.now } in
    (seen.pattern c.in_ok-content.content, v.see_mixed box ∙ ap (λ z. tree.mixed (seen.pattern z)) c.in_ok-content-2.ensures, c.in_ok-content.ensures.ok)

pub pattern-returns-in_err-first-clause-no : goal.pattern-returns-in_err-first-clause-no
pattern-returns-in_err-first-clause-no t c =
    passed _ _ c.from_residual.ensures.1 c.in_err-first.ensures.no (λ x y. st.first_item y)

pub pattern-returns-in_default-clause-ok : goal.pattern-returns-in_default-clause-ok
pattern-returns-in_default-clause-ok t c =
    p.alone c.in_ok-first.ensures.ok c.in_default.ensures

pub pattern-returns-in_err-all-clause-no : goal.pattern-returns-in_err-all-clause-no
pattern-returns-in_err-all-clause-no t c =
    passed _ _ c.from_residual-in_err-all.ensures.1 c.in_err-all.ensures.no (λ x y. l.past_connector c.in_ok-first.ensures.ok c.in-Some.ensures y)

pub pattern-returns-clause-ok : goal.pattern-returns-clause-ok
pattern-returns-clause-ok t c =
    let (ps, is, m) = c.in_ok-all.ensures.ok in
    subst (λ z. PatternAt false (scope_of c.args.self.now.scope) c.args.deepest (seen.tokens c.args.tokens.now) z (seen.tokens c.in_ok-all.after.now)) (sym (c.joined.ensures ∙ ap (p.joined_by (view.connector c.in-Some.between)) is))
    (l.several_items (scope_of c.args.self.now.scope) (view.connector c.in-Some.between) c.args.deepest (seen.tokens c.args.tokens.now) (seen.tokens c.in_ok-first.rest.now) (seen.tokens c.in-Some.behind.now) (seen.tokens c.in_ok-all.after.now) (seen.pattern c.in_ok-first.first) ps c.in_ok-first.ensures.ok c.in-Some.ensures m)

pub primary-returns-in_default-clause-no : goal.primary-returns-in_default-clause-no
primary-returns-in_default-clause-no t c =
    refuses_map c.unexpected.ensures (λ x y. l.ended_stops c.in_default.ensures y)

pub primary-returns-in_err-after-in-Attribute-clause-no : goal.primary-returns-in_err-after-in-Attribute-clause-no
primary-returns-in_err-after-in-Attribute-clause-no t c =
    passed _ _ c.from_residual.ensures.1 c.in_err-after-in-Attribute.ensures.no (λ x y. l.attribute_stops c.in-Some.ensures c.in-Attribute.ensures y)

pub primary-returns-in_err-found-in-Reference-clause-no : goal.primary-returns-in_err-found-in-Reference-clause-no
primary-returns-in_err-found-in-Reference-clause-no t c =
    unmade_by _ _ _ c.from_residual-in_err-found-in-Reference.ensures.1 c.in_err-found-in-Reference.ensures.no

pub primary-returns-in-Element-clause-ok : goal.primary-returns-in-Element-clause-ok
primary-returns-in-Element-clause-ok t c =
    map_ok _ _ c.element.result
    (λ r m. let (classes, inner, is, k) = m in subst (λ z. PrimaryAt false (scope_of c.args.self.now.scope) c.args.deepest (seen.tokens c.args.tokens.now) z (seen.tokens r.1.now)) (sym is) (l.element_primary (scope_of c.args.self.now.scope) c.args.deepest (seen.token c.in-Some.first.now) (seen.tokens c.args.tokens.now) (seen.tokens c.in-Some.rest.now) (seen.tokens r.1.now) classes inner c.in-Some.ensures c.in-Element.ensures k)) c.element.ensures.ok

pub primary-returns-in-Element-clause-no : goal.primary-returns-in-Element-clause-no
primary-returns-in-Element-clause-no t c =
    passes c.element.result c.element.ensures.no (λ x y. l.element_stops c.in-Some.ensures c.in-Element.ensures y)

pub primary-returns-in_ok-after-in-Attribute-clause-ok : goal.primary-returns-in_ok-after-in-Attribute-clause-ok
primary-returns-in_ok-after-in-Attribute-clause-ok t c =
    subst (λ z. PrimaryAt false (scope_of c.args.self.now.scope) c.args.deepest (seen.tokens c.args.tokens.now) z (seen.tokens c.in_ok-after-in-Attribute.after.now)) (sym v.see_attribute)
    (l.attribute_primary (scope_of c.args.self.now.scope) c.args.deepest (seen.token c.in-Some.first.now) (seen.tokens c.args.tokens.now) (seen.tokens c.in-Some.rest.now) (seen.tokens c.in_ok-after-in-Attribute.after.now) c.in-Some.ensures c.in-Attribute.ensures c.in_ok-after-in-Attribute.ensures.ok)

pub primary-returns-in-Mixed-clause-ok : goal.primary-returns-in-Mixed-clause-ok
primary-returns-in-Mixed-clause-ok t c =
    map_ok _ _ c.mixed.result
    (λ r m. let (inner, is, k) = m in subst (λ z. PrimaryAt false (scope_of c.args.self.now.scope) c.args.deepest (seen.tokens c.args.tokens.now) z (seen.tokens r.1.now)) (sym is) (l.mixed_primary (scope_of c.args.self.now.scope) c.args.deepest (seen.token c.in-Some.first.now) (seen.tokens c.args.tokens.now) (seen.tokens c.in-Some.rest.now) (seen.tokens r.1.now) inner c.in-Some.ensures c.in-Mixed.ensures k)) c.mixed.ensures.ok

pub primary-returns-in-Mixed-clause-no : goal.primary-returns-in-Mixed-clause-no
primary-returns-in-Mixed-clause-no t c =
    passes c.mixed.result c.mixed.ensures.no (λ x y. l.mixed_stops c.in-Some.ensures c.in-Mixed.ensures y)

pub primary-returns-in-Empty-clause-ok : goal.primary-returns-in-Empty-clause-ok
primary-returns-in-Empty-clause-ok t c =
    subst (λ z. PrimaryAt false (scope_of c.args.self.now.scope) c.args.deepest (seen.tokens c.args.tokens.now) z (seen.tokens c.in-Some.rest.now)) (sym v.see_empty) (l.one_word (scope_of c.args.self.now.scope) c.args.deepest (seen.token c.in-Some.first.now) (seen.tokens c.args.tokens.now) (seen.tokens c.in-Some.rest.now) tree.empty c.in-Some.ensures (p.an_empty c.in-Empty.ensures))

pub primary-returns-in-Text-clause-ok : goal.primary-returns-in-Text-clause-ok
primary-returns-in-Text-clause-ok t c =
    subst (λ z. PrimaryAt false (scope_of c.args.self.now.scope) c.args.deepest (seen.tokens c.args.tokens.now) z (seen.tokens c.in-Some.rest.now)) (sym v.see_text) (l.one_word (scope_of c.args.self.now.scope) c.args.deepest (seen.token c.in-Some.first.now) (seen.tokens c.args.tokens.now) (seen.tokens c.in-Some.rest.now) tree.text c.in-Some.ensures (p.a_text c.in-Text.ensures))

pub primary-returns-in-NotAllowed-clause-ok : goal.primary-returns-in-NotAllowed-clause-ok
primary-returns-in-NotAllowed-clause-ok t c =
    subst (λ z. PrimaryAt false (scope_of c.args.self.now.scope) c.args.deepest (seen.tokens c.args.tokens.now) z (seen.tokens c.in-Some.rest.now)) (sym v.see_not_allowed) (l.one_word (scope_of c.args.self.now.scope) c.args.deepest (seen.token c.in-Some.first.now) (seen.tokens c.args.tokens.now) (seen.tokens c.in-Some.rest.now) tree.not_allowed c.in-Some.ensures (p.a_not_allowed c.in-NotAllowed.ensures))

pub primary-returns-in-Parenthesis-clause-ok : goal.primary-returns-in-Parenthesis-clause-ok
primary-returns-in-Parenthesis-clause-ok t c =
    map_ok _ _ c.enclosed.result (λ r m. l.enclosed_primary m) c.enclosed.ensures.ok

pub primary-returns-in-Parenthesis-clause-no : goal.primary-returns-in-Parenthesis-clause-no
primary-returns-in-Parenthesis-clause-no t c =
    passes c.enclosed.result c.enclosed.ensures.no (λ x y. l.parentheses_stop c.in-Some.ensures c.in-Parenthesis.ensures y)

pub primary-returns-in_ok-found-in-Reference-clause-ok : goal.primary-returns-in_ok-found-in-Reference-clause-ok
primary-returns-in_ok-found-in-Reference-clause-ok t c =
    subst (λ z. PrimaryAt false (scope_of c.args.self.now.scope) c.args.deepest (seen.tokens c.args.tokens.now) z (seen.tokens c.in-Some.rest.now)) (sym c.in_ok-found-in-Reference.ensures.ok)
    (l.one_word (scope_of c.args.self.now.scope) c.args.deepest (seen.token c.in-Some.first.now) (seen.tokens c.args.tokens.now) (seen.tokens c.in-Some.rest.now) (tree.ref c.in-Reference.name.now (place c.in-Some.first.now.place)) c.in-Some.ensures (p.reference c.in-Reference.ensures))

pub primary-returns-in-Other-clause-no : goal.primary-returns-in-Other-clause-no
primary-returns-in-Other-clause-no t c =
    refuses_map c.no_pattern.ensures (λ x y. st.no_pattern y)

pub mixed-returns-in_err-content-clause-no : goal.mixed-returns-in_err-content-clause-no
mixed-returns-in_err-content-clause-no t c =
    passed _ _ c.from_residual.ensures.1 c.in_err-content.ensures.no (λ x y. y)

pub primary-no_pattern-requires : goal.primary-no_pattern-requires
primary-no_pattern-requires t c =
    (subst BeginsNoneRead (sym c.in-Some.ensures) c.in-Other.ensures)

pub element-returns-in_err-names-clause-ok : goal.element-returns-in_err-names-clause-ok
element-returns-in_err-names-clause-ok t c = unread_ok _ _ _ c.from_residual.ensures.1

pub element-returns-in_err-content-clause-ok : goal.element-returns-in_err-content-clause-ok
element-returns-in_err-content-clause-ok t c = unread_ok _ _ _ c.from_residual-in_err-content.ensures.1

pub element-returns-in_err-content-2-clause-ok : goal.element-returns-in_err-content-2-clause-ok
element-returns-in_err-content-2-clause-ok t c = unread_ok _ _ _ c.from_residual-in_err-content-2.ensures.1

pub enclosed-returns-in_err-inside-clause-ok : goal.enclosed-returns-in_err-inside-clause-ok
enclosed-returns-in_err-inside-clause-ok t c = unread_ok _ _ _ c.from_residual.ensures.1

pub enclosed-returns-in_err-inner-clause-ok : goal.enclosed-returns-in_err-inner-clause-ok
enclosed-returns-in_err-inner-clause-ok t c = unread_ok _ _ _ c.from_residual-in_err-inner.ensures.1

pub particle-returns-in_err-inner-clause-ok : goal.particle-returns-in_err-inner-clause-ok
particle-returns-in_err-inner-clause-ok t c = unread_ok _ _ _ c.from_residual.ensures.1

pub particle-returns-in_err-whole-clause-ok : goal.particle-returns-in_err-whole-clause-ok
particle-returns-in_err-whole-clause-ok t c = unread_ok _ _ _ c.from_residual-in_err-whole.ensures.1

pub particles-returns-in_err-all-clause-ok : goal.particles-returns-in_err-all-clause-ok
particles-returns-in_err-all-clause-ok t c = unread_ok _ _ _ c.from_residual.ensures.1

pub particles-returns-in_err-next-clause-ok : goal.particles-returns-in_err-next-clause-ok
particles-returns-in_err-next-clause-ok t c = unread_ok _ _ _ c.from_residual-in_err-next.ensures.1

pub particles-returns-in_err-behind-clause-ok : goal.particles-returns-in_err-behind-clause-ok
particles-returns-in_err-behind-clause-ok t c = unread_ok _ _ _ c.from_residual-in_err-behind.ensures.1

pub mixed-returns-in_err-content-2-clause-ok : goal.mixed-returns-in_err-content-2-clause-ok
mixed-returns-in_err-content-2-clause-ok t c = unread_ok _ _ _ c.from_residual-in_err-content-2.ensures.1

pub pattern-returns-in_err-first-clause-ok : goal.pattern-returns-in_err-first-clause-ok
pattern-returns-in_err-first-clause-ok t c = unread_ok _ _ _ c.from_residual.ensures.1

pub pattern-returns-in_err-all-clause-ok : goal.pattern-returns-in_err-all-clause-ok
pattern-returns-in_err-all-clause-ok t c = unread_ok _ _ _ c.from_residual-in_err-all.ensures.1

pub primary-returns-in_err-after-in-Attribute-clause-ok : goal.primary-returns-in_err-after-in-Attribute-clause-ok
primary-returns-in_err-after-in-Attribute-clause-ok t c = unread_ok _ _ _ c.from_residual.ensures.1

pub primary-returns-in_err-found-in-Reference-clause-ok : goal.primary-returns-in_err-found-in-Reference-clause-ok
primary-returns-in_err-found-in-Reference-clause-ok t c = unread_ok _ _ _ c.from_residual-in_err-found-in-Reference.ensures.1

pub mixed-returns-in_err-content-clause-ok : goal.mixed-returns-in_err-content-clause-ok
mixed-returns-in_err-content-clause-ok t c = unread_ok _ _ _ c.from_residual.ensures.1

pub pattern-particle-requires : goal.pattern-particle-requires
pattern-particle-requires t c = (omega (arith, c.decreases), tt)

pub pattern-particles-requires : goal.pattern-particles-requires
pattern-particles-requires t c = (omega (arith, c.decreases), tt)

pub particles-particle-requires : goal.particles-particle-requires
particles-particle-requires t c = (omega (arith, c.decreases), tt)

pub particle-primary-requires : goal.particle-primary-requires
particle-primary-requires t c = (omega (arith, c.decreases), tt)

pub element-enclosed-requires : goal.element-enclosed-requires
element-enclosed-requires t c = (omega (arith, c.decreases), tt)

pub mixed-enclosed-requires : goal.mixed-enclosed-requires
mixed-enclosed-requires t c = (omega (arith, c.decreases), tt)

pub primary-element-requires : goal.primary-element-requires
primary-element-requires t c = (omega (arith, c.decreases), tt)

pub primary-mixed-requires : goal.primary-mixed-requires
primary-mixed-requires t c = (omega (arith, c.decreases), tt)

pub primary-enclosed-requires : goal.primary-enclosed-requires
primary-enclosed-requires t c = (omega (arith, c.decreases), tt)

pub enclosed-pattern-requires : goal.enclosed-pattern-requires
enclosed-pattern-requires t c = (omega (arith, c.decreases, c.in_ok-inside.ensures.depth), tt)
