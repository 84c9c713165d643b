use Rattle.std.proofs.Common.{sym, ap, ◌∙◌, arith, rules}
use Rattle.tc_dtd.specs.DtdTextContents.{ParticleAt, a_group, GroupAt, ListAt, RestAt}
use Rattle.tc_dtd.specs.Outcomes.{read}
use Rattle.tc_dtd.specs.Stops.{Stops}
use Rattle.tc_dtd.specs.Views.{particle, particles}
use Rattle.tc_dtd.specs.Views as see
use Rattle.tc_dtd.proofs.ReaderLaws.{failed, map_ok, map_err}
use Rattle.tc_dtd.proofs.ContentsLaws.{group_stops, named_stops, named, no_group, too_nested, inside_stops, a_list, first_stops, choice_stops, sequence_stops, of_choice, of_sequence, joins_first, joins_more, joins_stops, joins_end, joins_unexpected, joins_shorter}
use Rattle.tc_dtd.proofs.ViewsLaws.{see_name, see_seq, see_choice, pushed_particle}
use Rattle.tc_dtd.proofs.contents.+particles.Goals as goal

pub particle-returns-in_err-inner-clause-no : goal.particle-returns-in_err-inner-clause-no
particle-returns-in_err-inner-clause-no t c =
    let e = c.in_err-inner.field-0.0 in
    let (r, f) = c.if-begins.ensures in
    failed c.from_residual.result (λ e. Stops e (ParticleAt c.args.deepest c.args.text.now)) e c.from_residual.ensures.1
    (group_stops c.args.deepest c.args.text.now r e f c.in_err-inner.ensures.no)

pub particle-returns-then-begins-clause-ok : goal.particle-returns-then-begins-clause-ok
particle-returns-then-begins-clause-ok t c = a_group c.in_ok-inner.ensures.ok c.in_ok-whole.ensures

pub particle-returns-in_err-name-clause-no : goal.particle-returns-in_err-name-clause-no
particle-returns-in_err-name-clause-no t c =
    let e = c.in_err-name.field-0.0 in
    failed c.from_residual-in_err-name.result (λ e. Stops e (ParticleAt c.args.deepest c.args.text.now)) e c.from_residual-in_err-name.ensures.1
    (named_stops c.args.deepest c.args.text.now e c.if-begins.ensures c.in_err-name.ensures.no)

pub particle-returns-clause-ok : goal.particle-returns-clause-ok
particle-returns-clause-ok t c =
    named c.args.deepest _ (particle c.in_ok-whole-2.whole.0) c.args.text.now c.in_ok-name.name.now c.in_ok-name.rest.now c.in_ok-whole-2.whole.1.now c.in_ok-name.ensures.ok (see_name c.in_ok-name.name) c.in_ok-whole-2.ensures

pub group-returns-in_default-clause-no : goal.group-returns-in_default-clause-no
group-returns-in_default-clause-no t c = no_group c.args.deepest c.args.text.now c.in_default.ensures

pub group-returns-then-deepest-eq0-clause-no : goal.group-returns-then-deepest-eq0-clause-no
group-returns-then-deepest-eq0-clause-no t c = too_nested c.args.deepest c.args.text.now c.in-Some.inside.now c.in-Some.ensures c.if-deepest-eq0.true

pub group-returns-clause-ok : goal.group-returns-clause-ok
group-returns-clause-ok t c =
    map_ok _ (λ r. GroupAt c.args.deepest c.args.text.now (read (see.particle r.0) r.1.now)) c.list.result
    (λ r a. a_list c.args.deepest c.args.text.now c.in-Some.inside.now c.after_white.result.now r.1.now (see.particle r.0) c.in-Some.ensures c.if-deepest-eq0.false c.after_white.ensures a) c.list.ensures.ok

pub group-returns-clause-no : goal.group-returns-clause-no
group-returns-clause-no t c =
    map_err _ (λ e. Stops e (GroupAt c.args.deepest c.args.text.now)) c.list.result
    (λ e a. inside_stops c.args.deepest c.args.text.now c.in-Some.inside.now c.after_white.result.now e c.in-Some.ensures c.if-deepest-eq0.false c.after_white.ensures a) c.list.ensures.no

pub list-returns-in_err-first-clause-no : goal.list-returns-in_err-first-clause-no
list-returns-in_err-first-clause-no t c =
    let e = c.in_err-first.field-0.0 in
    failed c.from_residual.result (λ e. Stops e (ListAt c.args.deepest c.args.text.now)) e c.from_residual.ensures.1 (first_stops c.args.deepest c.args.text.now e c.in_err-first.ensures.no)

pub list-returns-in_err-after-clause-no : goal.list-returns-in_err-after-clause-no
list-returns-in_err-after-clause-no t c =
    let e = c.in_err-after.field-0.0 in
    let (r, f) = c.if-begins.ensures in
    failed c.from_residual-in_err-after.result (λ e. Stops e (ListAt c.args.deepest c.args.text.now)) e c.from_residual-in_err-after.ensures.1
    (choice_stops c.args.deepest c.args.text.now c.in_ok-first.rest.now c.after_white.result.now r (particle c.in_ok-first.first) e c.in_ok-first.ensures.ok c.after_white.ensures f c.in_err-after.ensures.no)

pub list-returns-then-begins-clause-ok : goal.list-returns-then-begins-clause-ok
list-returns-then-begins-clause-ok t c =
    let (r, f) = c.if-begins.ensures in
    let (ps, i, a) = c.in_ok-after.ensures.ok in
    of_choice c.args.deepest c.args.text.now c.in_ok-first.rest.now c.after_white.result.now r c.in_ok-after.after.now (particle c.in_ok-first.first) _ (particles c.into_bump_slice.result.now) c.in_ok-first.ensures.ok
    c.after_white.ensures f (ps, ap particles c.into_bump_slice.ensures ∙ i, a) (see_choice c.into_bump_slice.result)

pub list-returns-in_err-after-2-clause-no : goal.list-returns-in_err-after-2-clause-no
list-returns-in_err-after-2-clause-no t c =
    let e = c.in_err-after-2.field-0.0 in
    failed c.from_residual-in_err-after-2.result (λ e. Stops e (ListAt c.args.deepest c.args.text.now)) e c.from_residual-in_err-after-2.ensures.1
    (sequence_stops c.args.deepest c.args.text.now c.in_ok-first.rest.now c.after_white.result.now (particle c.in_ok-first.first) e c.in_ok-first.ensures.ok c.after_white.ensures c.if-begins.ensures c.in_err-after-2.ensures.no)

pub list-returns-clause-ok : goal.list-returns-clause-ok
list-returns-clause-ok t c =
    let (ps, i, a) = c.in_ok-after-2.ensures.ok in
    of_sequence c.args.deepest c.args.text.now c.in_ok-first.rest.now c.in_ok-after-2.after.now (particle c.in_ok-first.first) _ (particles c.into_bump_slice-2.result.now) c.in_ok-first.ensures.ok
    (ps, ap particles c.into_bump_slice-2.ensures ∙ i, a) (see_seq c.into_bump_slice-2.result)

pub join-loop-next-init : goal.join-loop-next-init
join-loop-next-init t c = (
  search rules,
  joins_first c.args.connector c.args.deepest c.args.text.now (particle c.args.first) _ (ap particles c.requires.1.1.1.1),
)

pub join-returns-in_err-one-clause-no : goal.join-returns-in_err-one-clause-no
join-returns-in_err-one-clause-no t c =
    let e = c.in_err-one.field-0.0 in
    failed c.from_residual.result (λ e. Stops e (RestAt c.args.connector c.args.deepest c.args.text.now)) e c.from_residual.ensures.1
    (joins_stops c.args.connector c.args.deepest c.args.text.now c.loop-next.rest.now c.after_white.result.now c.in-Some.next.now c.after_white-in-Some.result.now (particle c.args.first) (particles c.loop-next.all.items) e
    c.loop-next.invariant.1 (omega (arith, c.requires.1)) c.after_white.ensures c.in-Some.ensures c.after_white-in-Some.ensures c.in_err-one.ensures.no)

pub join-loop-next-smaller : goal.join-loop-next-smaller
join-loop-next-smaller t c =
    joins_shorter c.args.connector c.args.deepest c.loop-next.rest.now c.after_white.result.now c.in-Some.next.now c.after_white-in-Some.result.now c.in_ok-one.after.now (particle c.in_ok-one.one)
    c.after_white.ensures c.in-Some.ensures c.after_white-in-Some.ensures c.in_ok-one.ensures.ok

pub join-loop-next-preserved : goal.join-loop-next-preserved
join-loop-next-preserved t c = (
  search rules,
  joins_more c.args.connector c.args.deepest c.args.text.now c.loop-next.rest.now c.after_white.result.now c.in-Some.next.now c.after_white-in-Some.result.now c.in_ok-one.after.now (particle c.args.first) (particle c.in_ok-one.one)
      (particles c.loop-next.all.items) _ c.loop-next.invariant.1 (omega (arith, c.requires.1)) c.after_white.ensures c.in-Some.ensures c.after_white-in-Some.ensures c.in_ok-one.ensures.ok
      (ap particles c.in_ok-push.ensures.items ∙ pushed_particle c.loop-next.all.items c.in_ok-one.one),
)

pub join-returns-in_default-after_byte-clause-no : goal.join-returns-in_default-after_byte-clause-no
join-returns-in_default-after_byte-clause-no t c =
    joins_unexpected c.args.connector c.args.deepest c.args.text.now c.loop-next.rest.now c.after_white-end.result.now (particle c.args.first) (particles c.loop-next.all.items) c.unexpected.result
    c.loop-next.invariant.1 c.after_white-end.ensures (λ r e. c.in_default.ensures r (c.after_white.ensures ∙ (sym c.after_white-end.ensures ∙ e))) c.in_default-after_byte.ensures c.unexpected.ensures

pub join-returns-clause-ok : goal.join-returns-clause-ok
join-returns-clause-ok t c =
    joins_end c.args.connector c.args.deepest c.args.text.now c.loop-next.rest.now c.after_white-end.result.now c.in-Some-after_byte.after.now (particle c.args.first) (particles c.loop-next.all.items)
    c.loop-next.invariant.1 c.after_white-end.ensures c.in-Some-after_byte.ensures

pub particle-group-requires : goal.particle-group-requires
particle-group-requires t c = omega arith

pub group-list-requires : goal.group-list-requires
group-list-requires t c = omega arith

pub list-particle-requires : goal.list-particle-requires
list-particle-requires t c = omega arith

pub join-particle-requires : goal.join-particle-requires
join-particle-requires t c = omega arith
