use Rattle.std.proofs.Common.{◌≡◌, ◌<◌, ◌∙◌, get_or, length, refl, subst, sym, arith}
use Rattle.std.proofs.lemmas.List.{get_or_default}
use Rattle.tc_auto.specs.declared.arrows.Arrow.{Arrow}
use Rattle.tc_beh.specs.Bundles.{AreLow}
use Rattle.tc_beh.proofs.Bundling.{AreFirst, none_first, next_first, all_first}
use Rattle.tc_beh.proofs.bundles.bundled.Goals as goal

abbrev no_arrow : Arrow
no_arrow = record { from = 0; to = 0 }

pub loop-arrow-init : goal.loop-arrow-init
loop-arrow-init c =
    let none = c.new-bundles.ensures.items in
    record {
      begun = refl;
      first = subst (AreFirst c.args.arrows.now 0) (sym none) (none_first c.args.arrows.now);
      low = subst (AreLow (length c.args.begun.now.items)) (sym none) (λ k low. absurd (omega (arith, low)));
    }

pub loop-arrow-preserved : goal.loop-arrow-preserved
loop-arrow-preserved c =
    let items = c.args.arrows.now in
    let n = c.loop-arrow.arrow-index in
    let v = c.loop-arrow.invariant in
    let low : n < length items = c.loop-arrow-test.true in
    let here : (z : Arrow) → get_or items n z ≡ get_or items n no_arrow = λ z. get_or_default items n z no_arrow low in
    let within = c.requires n no_arrow low in
    record {
      begun = c.put_edge.ensures.begun ∙ v.begun;
      first = next_first items n (get_or items n no_arrow) c.loop-arrow.bundles.items c.put_edge.new.bundles.items here c.in_ok-put_edge.ensures.edges v.first;
      low = c.in_ok-put_edge.ensures.low (length c.args.begun.now.items) within.0 within.1 v.low;
    }

pub returns-clause-edges : goal.returns-clause-edges
returns-clause-edges c =
    let past = c.loop-arrow-test.false in
    let end = c.loop-arrow.auto.arrow-index-end in
    all_first c.args.arrows.now c.loop-arrow.arrow-index c.loop-arrow.bundles.items (omega (arith, past, end)) c.loop-arrow.invariant.first
