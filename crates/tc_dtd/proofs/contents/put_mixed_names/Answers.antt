use Rattle.std.proofs.Common.{ap, ◌∙◌, sym, ◌∷◌, [], rules}
use Rattle.std.proofs.lemmas.List.{map-append}
use Rattle.tc_dtd.specs.DtdTextContents.{NamesAt}
use Rattle.tc_dtd.specs.Stops.{Stops}
use Rattle.tc_dtd.specs.Views.{names}
use Rattle.tc_dtd.proofs.ReaderLaws.{failed}
use Rattle.tc_dtd.proofs.ContentsLaws.{lists_first, lists_more, lists_stops, lists_end, lists_unexpected, lists_shorter}
use Rattle.tc_dtd.proofs.contents.put_mixed_names.Goals as goal

pub loop-next-init : goal.loop-next-init
loop-next-init c = record { so_far = lists_first c.args.text.now _ (ap names c.requires); text = search rules }

pub returns-in_err-name-clause-no : goal.returns-in_err-name-clause-no
returns-in_err-name-clause-no c =
    let e = c.in_err-name.field-0.0 in
    failed c.from_residual.result (λ e. Stops e (NamesAt c.args.text.now)) e c.from_residual.ensures.1
    (lists_stops c.args.text.now c.loop-next.rest.now c.after_white.result.now c.in-Some.next.now c.after_white-in-Some.result.now (names c.loop-next.all.items) e c.loop-next.invariant.so_far
    c.after_white.ensures c.in-Some.ensures c.after_white-in-Some.ensures c.in_err-name.ensures.no)

pub loop-next-smaller : goal.loop-next-smaller
loop-next-smaller c =
    lists_shorter c.loop-next.rest.now c.after_white.result.now c.in-Some.next.now c.after_white-in-Some.result.now c.in_ok-name.after.now c.in_ok-name.name.now
    c.after_white.ensures c.in-Some.ensures c.after_white-in-Some.ensures c.in_ok-name.ensures.ok

pub loop-next-preserved : goal.loop-next-preserved
loop-next-preserved c = record {
  so_far =
      let one = c.in_ok-name.name in
      lists_more c.args.text.now c.loop-next.rest.now c.after_white.result.now c.in-Some.next.now c.after_white-in-Some.result.now c.in_ok-name.after.now one.now (names c.loop-next.all.items) _ c.loop-next.invariant.so_far
      c.after_white.ensures c.in-Some.ensures c.after_white-in-Some.ensures c.in_ok-name.ensures.ok
      (ap names c.in_ok-push.ensures.items ∙ map-append (λ n. n.now) c.loop-next.all.items (one ∷ []));
  text = search rules;
}

pub returns-in_default-after_byte-clause-no : goal.returns-in_default-after_byte-clause-no
returns-in_default-after_byte-clause-no c =
    lists_unexpected c.args.text.now c.loop-next.rest.now c.after_white-end.result.now (names c.loop-next.all.items) c.unexpected.result c.loop-next.invariant.so_far c.after_white-end.ensures
    (λ r e. c.in_default.ensures r (c.after_white.ensures ∙ (sym c.after_white-end.ensures ∙ e))) c.in_default-after_byte.ensures c.unexpected.ensures

pub returns-clause-ok : goal.returns-clause-ok
returns-clause-ok c =
    lists_end c.args.text.now c.loop-next.rest.now c.after_white-end.result.now c.in-Some-after_byte.after.now (names c.loop-next.all.items) c.loop-next.invariant.so_far c.after_white-end.ensures c.in-Some-after_byte.ensures
