use Rattle.std.proofs.Common.{◌∙◌, List, [], Bool, ap, sym, subst, length, true, false, Some}
use Rattle.tc_model.specs.Views.{place}
use Rattle.tc_model.specs.SimplifiesFaults.{IsAcyclic}
use Rattle.tc_rnc.specs.Views.{syntax}
use Rattle.tc_simple.specs.Nodes.{HasNumbersBelow, IsFirstLoop, StartsBadly, StartsWell}
use Rattle.tc_simple.specs.Places.{maybe_place}
use Rattle.tc_model.specs.SimplifiesParts.{definitions_of}
use Rattle.tc_simple.proofs.Answered.{failed_on}
use Rattle.tc_simple.proofs.Checked.{count_links, first_exists, numbers_below, start_within}
use Rattle.tc_simple.proofs.Resolving.{badly_is, first_is_loop, none_is_loop, well_is}
use Rattle.tc_simple.proofs.resolve.check.Goals as goal

pub mark-requires-clause-start : goal.mark-requires-clause-start
mark-requires-clause-start c = start_within (syntax c.args.syntax.now) c.args.table.now c.args.start c.requires.resolves.table c.requires.resolves.begins

pub mark-requires-clause-table : goal.mark-requires-clause-table
mark-requires-clause-table c = (syntax c.args.syntax.now, c.requires.resolves.table)

pub returns-in-Some-clause-err : goal.returns-in-Some-clause-err
returns-in-Some-clause-err c =
    let t = c.args.table.now in
    let w = c.args.walk.now in (
      c.requires.names.once,
      c.requires.names.defined,
      first_is_loop (syntax c.args.syntax.now) t c.args.start c.args.marks.now w.states.items w.order.items c.requires.resolves (place c.in-Some.place)
          (subst (IsFirstLoop t w.states.items c.args.marks.now) (ap maybe_place c.in-Some.is) c.in_ok-place.ensures),
    )

pub returns-in-Some-bad_except-clause-err : goal.returns-in-Some-bad_except-clause-err
returns-in-Some-bad_except-clause-err c =
    let t = c.args.table.now in
    let w = c.args.walk.now in
    let acyclic : IsAcyclic (syntax c.args.syntax.now) = none_is_loop (syntax c.args.syntax.now) t c.args.start c.args.marks.now w.states.items w.order.items c.requires.resolves
    (subst (IsFirstLoop t w.states.items c.args.marks.now) (ap maybe_place c.in_default.is) c.in_ok-place.ensures) in
    (c.requires.names.once, c.requires.names.defined, acyclic, sym c.in-Some-bad_except.ensures)

pub returns-then-starts-clause-ok : goal.returns-then-starts-clause-ok
returns-then-starts-clause-ok c =
    let s = syntax c.args.syntax.now in
    let t = c.args.table.now in
    let w = c.args.walk.now in
    record {
      once = c.requires.names.once;
      defined = c.requires.names.defined;
      acyclic = none_is_loop s t c.args.start c.args.marks.now w.states.items w.order.items c.requires.resolves (subst (IsFirstLoop t w.states.items c.args.marks.now) (ap maybe_place c.in_default.is) c.in_ok-place.ensures);
      excepts = sym c.in_default-bad_except.ensures;
      start = well_is s t c.requires.resolves.table c.args.start c.requires.resolves.begins c.in_ok-below.below.items c.in_ok-below.ensures
          (subst (λ (m : List Bool). StartsWell t m (length t.patterns.items)) c.deref.ensures.value c.if-starts.ensures);
    }

pub returns-clause-err : goal.returns-clause-err
returns-clause-err c =
    let s = syntax c.args.syntax.now in
    let t = c.args.table.now in
    let w = c.args.walk.now in
    let acyclic : IsAcyclic s = none_is_loop s t c.args.start c.args.marks.now w.states.items w.order.items c.requires.resolves
    (subst (IsFirstLoop t w.states.items c.args.marks.now) (ap maybe_place c.in_default.is) c.in_ok-place.ensures) in
    let (p, got, is) = c.requires.resolves.table.present [] c.args.start c.requires.resolves.begins in
    let (first, e) = first_exists (definitions_of s.definitions []) is in (
      c.requires.names.once,
      c.requires.names.defined,
      acyclic,
      sym c.in_default-bad_except.ensures,
      badly_is s t c.requires.resolves.table c.args.start c.requires.resolves.begins c.in_ok-below.below.items c.in_ok-below.ensures (place c.start_place.result)
          (subst (λ (m : List Bool). StartsBadly t m) c.deref.ensures.value c.if-starts.ensures) (e ∙ ap Some (sym (c.start_place.ensures first e))),
    )

pub returns-in_err-place-clause-ok : goal.returns-in_err-place-clause-ok
returns-in_err-place-clause-ok c = failed_on c.from_residual.result _ _ c.from_residual.ensures.1

pub returns-in_err-below-clause-ok : goal.returns-in_err-below-clause-ok
returns-in_err-below-clause-ok c = failed_on c.from_residual-in_err-below.result _ _ c.from_residual-in_err-below.ensures.1

pub returns-in-Some-clause-ok : goal.returns-in-Some-clause-ok
returns-in-Some-clause-ok c = tt

pub returns-in-Some-bad_except-clause-ok : goal.returns-in-Some-bad_except-clause-ok
returns-in-Some-bad_except-clause-ok c = tt

pub returns-then-starts-clause-err : goal.returns-then-starts-clause-err
returns-then-starts-clause-err c = tt

pub returns-clause-ok : goal.returns-clause-ok
returns-clause-ok c = tt

pub starts_well-starts-requires : goal.starts_well-starts-requires
starts_well-starts-requires c = ap (λ (m : List Bool). length m) c.deref.ensures.value ∙ (c.in_ok-below.ensures.size ∙ count_links c.args.table.now false)

pub first_loop-requires : goal.first_loop-requires
first_loop-requires c = record {
  marks = c.requires.resolves.reach.size ∙ count_links c.args.table.now true;
  states = c.requires.resolves.components.size ∙ count_links c.args.table.now false;
  numbers = subst (HasNumbersBelow c.args.table.now) (sym (c.requires.resolves.components.size ∙ count_links c.args.table.now false)) (numbers_below (syntax c.args.syntax.now) c.args.table.now c.requires.resolves.table);
}
