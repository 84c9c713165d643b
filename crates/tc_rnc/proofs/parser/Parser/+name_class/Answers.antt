use Rattle.std.proofs.Common.{ap, ◌∙◌, sym, subst, length, arith}
use Rattle.tc_model.specs.CompactSyntaxNames.{alone, ClassAt, SimpleAt}
use Rattle.tc_model.specs.CompactSyntaxStops as st
use Rattle.tc_model.specs.CompactSyntaxTrees.{one_of}
use Rattle.tc_model.specs.Views.{name}
use Rattle.tc_model.proofs.CompactSyntaxBehind.{behind_shorter, simple_behind}
use Rattle.tc_rnc.specs.Refusals.{too_deep}
use Rattle.tc_rnc.specs.Stops.{within, unclosed}
use Rattle.tc_rnc.specs.Scopes.{scope_of}
use Rattle.tc_rnc.specs.Views as seen
use Rattle.tc_rnc.proofs.RefusalLaws.{refuses_map, passed, passes, unmade, unmade_by, map_ok, at_some, at_none}
use Rattle.tc_rnc.proofs.UnreadLaws.{unread_ok}
use Rattle.tc_rnc.proofs.ClassLaws as l
use Rattle.tc_rnc.proofs.WildcardLaws as w
use Rattle.tc_rnc.proofs.Views.{see_name, see_one_of}
use Rattle.tc_rnc.proofs.parser.Parser.+name_class.Goals as goal

pub name_class-returns-in_err-first-clause-no : goal.name_class-returns-in_err-first-clause-no
name_class-returns-in_err-first-clause-no t c =
    passed _ _ c.from_residual.ensures.1 c.in_err-first.ensures.no (λ v y. st.simple y)

pub name_class-returns-in_default-clause-ok : goal.name_class-returns-in_default-clause-ok
name_class-returns-in_default-clause-ok t c = alone c.in_ok-first.ensures.ok c.in_default.ensures

pub name_class-name_classes-requires : goal.name_class-name_classes-requires
name_class-name_classes-requires t c = (omega (arith, c.decreases, behind_shorter (simple_behind c.in_ok-first.ensures.ok), l.begins_shorter c.in-Some.ensures), tt)

pub name_class-returns-in_err-all-clause-no : goal.name_class-returns-in_err-all-clause-no
name_class-returns-in_err-all-clause-no t c =
    passed _ _ c.from_residual-in_err-all.ensures.1 c.in_err-all.ensures.no (λ v y. l.past_bar c.in_ok-first.ensures.ok c.in-Some.ensures y)

pub name_class-returns-clause-ok : goal.name_class-returns-clause-ok
name_class-returns-clause-ok t c =
    let (cs, is, m) = c.in_ok-all.ensures.ok in
    subst (λ z. ClassAt (scope_of c.args.self.now.scope) c.args.deepest (seen.tokens c.args.tokens.now) z (seen.tokens c.in_ok-all.after.now)) (sym (see_one_of c.in_ok-all.all ∙ ap one_of is))
    (l.several_classes (scope_of c.args.self.now.scope) c.args.deepest (seen.tokens c.args.tokens.now) (seen.tokens c.in_ok-first.rest.now) (seen.tokens c.in-Some.behind.now) (seen.tokens c.in_ok-all.after.now) (seen.class c.in_ok-first.first) cs c.in_ok-first.ensures.ok c.in-Some.ensures m)

pub name_classes-returns-in_err-all-clause-no : goal.name_classes-returns-in_err-all-clause-no
name_classes-returns-in_err-all-clause-no t c =
    unmade _ _ c.from_residual.ensures.1

pub name_classes-loop-all-init : goal.name_classes-loop-all-init
name_classes-loop-all-init t c =
    subst (λ z. l.ClassesSoFar (seen.end c.args.self.now.end) (scope_of c.args.self.now.scope) c.args.deepest (seen.tokens c.args.tokens.now) (seen.tokens z) c.args.first c.in_ok-all.all.items) (sym c.split_at.ensures.back)
    (l.no_classes_yet (seen.end c.args.self.now.end) (scope_of c.args.self.now.scope) c.args.deepest (seen.tokens c.args.tokens.now) c.args.first c.in_ok-all.all.items c.in_ok-all.ensures.items)

pub name_classes-simple_name_class-requires : goal.name_classes-simple_name_class-requires
name_classes-simple_name_class-requires t c = (omega (arith, c.decreases, c.loop-all.invariant.shorter), tt)

pub name_classes-returns-in_err-next-clause-no : goal.name_classes-returns-in_err-next-clause-no
name_classes-returns-in_err-next-clause-no t c =
    passed _ _ c.from_residual-in_err-next.ensures.1 c.in_err-next.ensures.no (λ v y. c.loop-all.invariant.stops v (st.simple y))

pub name_classes-returns-in_default-clause-ok : goal.name_classes-returns-in_default-clause-ok
name_classes-returns-in_default-clause-ok t c =
    l.classes_done (seen.end c.args.self.now.end) (scope_of c.args.self.now.scope) c.args.deepest (seen.tokens c.args.tokens.now) (seen.tokens c.loop-all.rest.now) (seen.tokens c.in_ok-next.after.now) c.args.first c.in_ok-next.next c.loop-all.all.items
    c.into_bump_slice.result.now c.loop-all.invariant c.in_ok-next.ensures.ok c.in_default.ensures (c.into_bump_slice.ensures ∙ c.in_ok-push.ensures.items)

pub name_classes-loop-all-smaller : goal.name_classes-loop-all-smaller
name_classes-loop-all-smaller t c = omega (arith, behind_shorter (simple_behind c.in_ok-next.ensures.ok), l.begins_shorter c.in-Some.ensures)

pub name_classes-loop-all-preserved : goal.name_classes-loop-all-preserved
name_classes-loop-all-preserved t c =
    l.more_classes (seen.end c.args.self.now.end) (scope_of c.args.self.now.scope) c.args.deepest (seen.tokens c.args.tokens.now) (seen.tokens c.loop-all.rest.now) (seen.tokens c.in_ok-next.after.now) (seen.tokens c.in-Some.behind.now) c.args.first c.in_ok-next.next
    c.loop-all.all.items c.push.new.self.items c.loop-all.invariant c.in_ok-next.ensures.ok c.in-Some.ensures c.in_ok-push.ensures.items

pub closed_name_class-returns-in_err-inner-clause-no : goal.closed_name_class-returns-in_err-inner-clause-no
closed_name_class-returns-in_err-inner-clause-no t c =
    passed _ _ c.from_residual.ensures.1 c.in_err-inner.ensures.no (λ v y. within y)

pub closed_name_class-returns-in_default-clause-no : goal.closed_name_class-returns-in_default-clause-no
closed_name_class-returns-in_default-clause-no t c =
    refuses_map c.unexpected.ensures (λ v y. unclosed c.in_ok-inner.ensures.ok c.in_default.ensures y)

pub closed_name_class-returns-clause-ok : goal.closed_name_class-returns-clause-ok
closed_name_class-returns-clause-ok t c =
    l.a_closed_class (scope_of c.args.self.now.scope) c.args.deepest (seen.tokens c.args.tokens.now) (seen.tokens c.in_ok-inner.closing.now) (seen.tokens c.in-Some.after.now) (seen.class c.in_ok-inner.inner) c.in_ok-inner.ensures.ok c.in-Some.ensures

pub name_classes-returns-in_err-push-clause-no : goal.name_classes-returns-in_err-push-clause-no
name_classes-returns-in_err-push-clause-no t c =
    unmade _ _ c.from_residual-in_err-push.ensures.1

pub name_class-returns-in_err-first-clause-ok : goal.name_class-returns-in_err-first-clause-ok
name_class-returns-in_err-first-clause-ok t c = unread_ok _ _ _ c.from_residual.ensures.1

pub name_class-returns-in_err-all-clause-ok : goal.name_class-returns-in_err-all-clause-ok
name_class-returns-in_err-all-clause-ok t c = unread_ok _ _ _ c.from_residual-in_err-all.ensures.1

pub name_classes-returns-in_err-all-clause-ok : goal.name_classes-returns-in_err-all-clause-ok
name_classes-returns-in_err-all-clause-ok t c = unread_ok _ _ _ c.from_residual.ensures.1

pub name_classes-returns-in_err-next-clause-ok : goal.name_classes-returns-in_err-next-clause-ok
name_classes-returns-in_err-next-clause-ok t c = unread_ok _ _ _ c.from_residual-in_err-next.ensures.1

pub closed_name_class-returns-in_err-inner-clause-ok : goal.closed_name_class-returns-in_err-inner-clause-ok
closed_name_class-returns-in_err-inner-clause-ok t c = unread_ok _ _ _ c.from_residual.ensures.1

pub name_classes-returns-in_err-push-clause-ok : goal.name_classes-returns-in_err-push-clause-ok
name_classes-returns-in_err-push-clause-ok t c = unread_ok _ _ _ c.from_residual-in_err-push.ensures.1

pub name_class-simple_name_class-requires : goal.name_class-simple_name_class-requires
name_class-simple_name_class-requires t c = (omega (arith, c.decreases), tt)

pub closed_name_class-name_class-requires : goal.closed_name_class-name_class-requires
closed_name_class-name_class-requires t c = (omega (arith, c.decreases), tt)

pub simple_name_class-returns-in_err-wildcards-clause-ok : goal.simple_name_class-returns-in_err-wildcards-clause-ok
simple_name_class-returns-in_err-wildcards-clause-ok t c = unread_ok _ _ _ c.from_residual.ensures.1

pub simple_name_class-returns-in_err-excepted-clause-ok : goal.simple_name_class-returns-in_err-excepted-clause-ok
simple_name_class-returns-in_err-excepted-clause-ok t c = unread_ok _ _ _ c.from_residual-in_err-excepted.ensures.1

pub simple_name_class-returns-in_err-class-clause-ok : goal.simple_name_class-returns-in_err-class-clause-ok
simple_name_class-returns-in_err-class-clause-ok t c = unread_ok _ _ _ c.from_residual-in_err-class.ensures.1

pub simple_name_class-returns-in_err-wildcards-clause-no : goal.simple_name_class-returns-in_err-wildcards-clause-no
simple_name_class-returns-in_err-wildcards-clause-no t c =
    unmade_by _ _ _ c.from_residual.ensures.1 c.in_err-wildcards.ensures.no

pub simple_name_class-innermost_name_class-requires : goal.simple_name_class-innermost_name_class-requires
simple_name_class-innermost_name_class-requires t c = (omega (arith, c.decreases, w.excepts_shorter c.in_ok-wildcards.ensures.ok), c.in_ok-wildcards.ensures.ends)

pub simple_name_class-returns-in_err-excepted-clause-no : goal.simple_name_class-returns-in_err-excepted-clause-no
simple_name_class-returns-in_err-excepted-clause-no t c =
    passed _ _ c.from_residual-in_err-excepted.ensures.1 c.in_err-excepted.ensures.no (λ v y. w.excepts_stop c.in_ok-wildcards.ensures.ok y)

pub simple_name_class-returns-in_err-class-clause-no : goal.simple_name_class-returns-in_err-class-clause-no
simple_name_class-returns-in_err-class-clause-no t c =
    unmade_by _ _ _ c.from_residual-in_err-class.ensures.1 c.in_err-class.ensures.no

pub simple_name_class-returns-clause-ok : goal.simple_name_class-returns-clause-ok
simple_name_class-returns-clause-ok t c =
    subst (λ z. SimpleAt (scope_of c.args.self.now.scope) c.args.deepest (seen.tokens c.args.tokens.now) z (seen.tokens c.in_ok-excepted.after.now)) (sym c.in_ok-class.ensures.ok)
    (w.excepts_class c.in_ok-wildcards.ensures.ok c.in_ok-excepted.ensures.ok)

pub innermost_name_class-returns-in-Some-clause-ok : goal.innermost_name_class-returns-in-Some-clause-ok
innermost_name_class-returns-in-Some-clause-ok t c =
    subst (λ z. SimpleAt (scope_of c.args.self.now.scope) c.args.deepest (seen.tokens c.args.tokens.now) z (seen.tokens c.in-Some.rest.now)) (sym c.without.ensures)
    (w.plain_wildcard c.requires c.in-Some.ensures)

pub innermost_name_class-returns-in_default-first_of-clause-no : goal.innermost_name_class-returns-in_default-first_of-clause-no
innermost_name_class-returns-in_default-first_of-clause-no t c =
    refuses_map c.unexpected.ensures (λ v y. l.no_token_stops c.in_default-first_of.ensures y)

pub innermost_name_class-returns-then-deepest-eq0-clause-no : goal.innermost_name_class-returns-then-deepest-eq0-clause-no
innermost_name_class-returns-then-deepest-eq0-clause-no t c =
    too_deep (l.deep_class c.in-Some-first_of.ensures c.if-is_mark.ensures c.if-deepest-eq0.true)

pub innermost_name_class-returns-then-is_mark-clause-ok : goal.innermost_name_class-returns-then-is_mark-clause-ok
innermost_name_class-returns-then-is_mark-clause-ok t c =
    map_ok _ _ c.closed_name_class.result
    (λ r m. l.simple_closed (scope_of c.args.self.now.scope) c.args.deepest (seen.tokens c.args.tokens.now) (seen.tokens c.in-Some-first_of.rest.now) (seen.tokens r.1.now) (seen.class r.0) c.if-deepest-eq0.false
    (seen.token c.in-Some-first_of.first.now, c.in-Some-first_of.ensures, c.if-is_mark.ensures) m) c.closed_name_class.ensures.ok

pub innermost_name_class-returns-then-is_mark-clause-no : goal.innermost_name_class-returns-then-is_mark-clause-no
innermost_name_class-returns-then-is_mark-clause-no t c =
    passes c.closed_name_class.result c.closed_name_class.ensures.no
    (λ v y. l.closed_stops c.args.deepest c.if-deepest-eq0.false (seen.token c.in-Some-first_of.first.now, c.in-Some-first_of.ensures, c.if-is_mark.ensures) y)

pub innermost_name_class-closed_name_class-requires : goal.innermost_name_class-closed_name_class-requires
innermost_name_class-closed_name_class-requires t c = (omega (arith, c.decreases, ap length c.in-Some-first_of.ensures), tt)

pub innermost_name_class-returns-in_err-name-clause-ok : goal.innermost_name_class-returns-in_err-name-clause-ok
innermost_name_class-returns-in_err-name-clause-ok t c = unread_ok _ _ _ c.from_residual.ensures.1

pub innermost_name_class-returns-in_err-name-clause-no : goal.innermost_name_class-returns-in_err-name-clause-no
innermost_name_class-returns-in_err-name-clause-no t c =
    unmade_by _ _ _ c.from_residual.ensures.1 c.in_err-name.ensures.no

pub innermost_name_class-returns-in-Some-2-clause-ok : goal.innermost_name_class-returns-in-Some-2-clause-ok
innermost_name_class-returns-in-Some-2-clause-ok t c =
    subst (λ z. SimpleAt (scope_of c.args.self.now.scope) c.args.deepest (seen.tokens c.args.tokens.now) z (seen.tokens c.in-Some-first_of.rest.now)) (sym (see_name c.in-Some-2.name))
    (l.simple_name (scope_of c.args.self.now.scope) c.args.deepest (seen.token c.in-Some-first_of.first.now) (seen.tokens c.args.tokens.now) (seen.tokens c.in-Some-first_of.rest.now) (name c.in-Some-2.name)
    c.in-Some-first_of.ensures (at_some _ _ c.in_ok-name.field-0 c.in-Some-2.name c.in-Some-2.is c.in_ok-name.ensures.ok))

pub innermost_name_class-returns-in-None-clause-no : goal.innermost_name_class-returns-in-None-clause-no
innermost_name_class-returns-in-None-clause-no t c =
    refuses_map c.unexpected-in-None.ensures
    (λ v y. l.nothing_stops c.in-Some-first_of.ensures (w.no_simple c.in-Some-first_of.ensures c.in_default.ensures c.if-is_mark.ensures (at_none _ _ c.in_ok-name.field-0 c.in-None.is c.in_ok-name.ensures.ok)) y)
