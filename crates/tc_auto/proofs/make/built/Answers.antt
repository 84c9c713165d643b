use Rattle.std.proofs.Common.{◌≡◌, ◌<◌, ℕ, List, [], ◌∷◌, ◌++◌, ap, sym, ◌∙◌, length, get_or, refl, subst, arith, rules}
use Rattle.std.proofs.lemmas.Option.{slice_get-get_or}
use Rattle.tc_auto.specs.declared.rows.Row.{Row}
use Rattle.tc_auto.specs.Arrows.{AreArrows, leaf_at}
use Rattle.tc_auto.proofs.ArrowLists.{arrows_within}
use Rattle.tc_model.specs.Views.{grammar}
use Rattle.tc_auto.specs.Stands.{Built, side_of}
use Rattle.tc_auto.proofs.Bounds.{edges_within, begun_within, begun_below}
use Rattle.tc_auto.proofs.Totals.{rows_within, elements_within, part_fits, built_step_as, built_all}
use Rattle.tc_auto.proofs.make.built.Goals as goal

pub overflow_cast-first : goal.overflow_cast-first
overflow_cast-first c =
    let low = rows_within c.args.grammar.now (side_of c.args.with_start) c.args.grammar.now.elements.now refl c.loop-element.element-index c.loop-element.firsts.items c.loop-element.rows.items c.loop-element.invariant in
    let same : c.len-first.result ≡ length c.loop-element.rows.items = search rules in
    let small : c.len-first.result < 4294967296 = omega (arith, c.requires) in
    search rules

pub overflow_cast-grammar : goal.overflow_cast-grammar
overflow_cast-grammar c =
    let few = elements_within c.args.grammar.now (side_of c.args.with_start) c.args.grammar.now.elements.now refl in
    let small : length c.args.grammar.now.elements.now < 4294967296 = omega (arith, few, c.requires) in
    search rules

pub loop-element-init : goal.loop-element-init
loop-element-init c =
    subst (λ (w : List ℕ). Built (grammar c.args.grammar.now) (side_of c.args.with_start) 1 w c.in_ok-rows.rows.items) (sym (c.in_ok-push.ensures.items ∙ ap (λ (w : List ℕ). w ++ 0 ∷ []) c.new-firsts.ensures.items)) c.in_ok-rows.ensures

pub push_part-requires : goal.push_part-requires
push_part-requires c =
    let same : c.len-first.result ≡ length c.loop-element.rows.items = search rules in
    part_fits c.args.grammar.now (side_of c.args.with_start) c.args.grammar.now.elements.now refl c.loop-element.element-index c.len-first.result _ c.loop-element.firsts.items c.loop-element.rows.items c.loop-element-test.true same c.loop-element.invariant c.requires

pub loop-element-preserved : goal.loop-element-preserved
loop-element-preserved c =
    let one = c.in_ok-push_part.ensures in
    let same : c.len-first.result ≡ length c.loop-element.rows.items = search rules in
    built_step_as c.args.grammar.now (side_of c.args.with_start) c.args.grammar.now.elements.now refl c.loop-element.element-index c.len-first.result _ c.loop-element.firsts.items _ c.loop-element.rows.items one.0 _ c.loop-element-test.true same c.loop-element.invariant one.2 c.in_ok-push-2.ensures.items one.1

pub invariant_of-result : goal.invariant_of-result
invariant_of-result c =
    let low = rows_within c.args.grammar.now (side_of c.args.with_start) c.args.grammar.now.elements.now refl c.loop-element.element-index c.loop-element.firsts.items c.loop-element.rows.items c.loop-element.invariant in
    let few = elements_within c.args.grammar.now (side_of c.args.with_start) c.args.grammar.now.elements.now refl in
    let all = built_all c.args.grammar.now (side_of c.args.with_start) c.args.grammar.now.elements.now refl c.loop-element.element-index c.loop-element.firsts.items c.loop-element.rows.items c.loop-element-test.false c.loop-element.auto.element-index-end c.loop-element.invariant in
    record {
      counted = omega (arith, low, c.requires);
      parted = omega (arith, c.loop-element.invariant.begun, c.loop-element-test.false, c.loop-element.auto.element-index-end);
      numbered = omega (arith, few, c.requires);
      within = edges_within (grammar c.args.grammar.now) (side_of c.args.with_start) c.loop-element.firsts.items c.loop-element.rows.items all;
      begun = begun_within (grammar c.args.grammar.now) (side_of c.args.with_start) c.loop-element.firsts.items c.loop-element.rows.items all;
      arrowed = c.in_ok-arrows.ensures.counted;
      arrows_within = λ k d low.
          arrows_within (grammar c.args.grammar.now) (side_of c.args.with_start) c.loop-element.firsts.items c.loop-element.rows.items all (leaf_at k) (get_or c.in_ok-arrows.arrows.items k d).items
          (subst (λ (w : List Row). AreArrows w c.in_ok-arrows.arrows.items) c.deref.ensures.value c.in_ok-arrows.ensures.arrows k (get_or c.in_ok-arrows.arrows.items k d) (slice_get-get_or c.in_ok-arrows.arrows.items k d low));
      begun_below = begun_below (grammar c.args.grammar.now) (side_of c.args.with_start) c.loop-element.firsts.items c.loop-element.rows.items all;
    }

pub returns : goal.returns
returns c = record { start = refl; elements = refl; built = built_all c.args.grammar.now (side_of c.args.with_start) c.args.grammar.now.elements.now refl c.loop-element.element-index c.loop-element.firsts.items c.loop-element.rows.items c.loop-element-test.false c.loop-element.auto.element-index-end c.loop-element.invariant; arrows = subst (λ (w : List Row). AreArrows w c.in_ok-arrows.arrows.items) c.deref.ensures.value c.in_ok-arrows.ensures.arrows }

pub all_arrows-requires : goal.all_arrows-requires
all_arrows-requires c =
    let low = rows_within c.args.grammar.now (side_of c.args.with_start) c.args.grammar.now.elements.now refl c.loop-element.element-index c.loop-element.firsts.items c.loop-element.rows.items c.loop-element.invariant in
    let few : length c.loop-element.rows.items < 4294967296 = omega (arith, low, c.requires) in
    subst (λ (w : List Row). length w < 4294967296) (sym c.deref.ensures.value) few
