use Rattle.std.proofs.Common.{◌≡◌, ◌+◌, ◌/◌, ◌∙◌, ℕ, length, replicate, ap, subst, sym, arith}
use Rattle.std.proofs.lemmas.List.{length-replicate}
use Rattle.tc_model.specs.States as s
use Rattle.tc_auto.specs.Arrows.{AreWithin}
use Rattle.tc_auto.specs.Stands.{states}
use Rattle.tc_mat.specs.Matrix.{words_a_row}
use Rattle.tc_beh.specs.Bundles.{AreBundled, AreLow}
use Rattle.tc_beh.proofs.Bundling.{are_bundled, each_pushed, no_element, one_longer}
use Rattle.tc_beh.proofs.bundles.Bundles.of.Goals as goal

pub loop-before-init : goal.loop-before-init
loop-before-init c =
    let none = c.new-patterns.ensures.items in
    let zeros = c.in_ok-begun.ensures.items_if_clones_equal (λ y e. e) in
    record {
      begun = c.bundled.ensures.begun ∙ (ap length zeros ∙ (length-replicate c.states-states.result 0 ∙ c.states-states.ensures.here));
      count = ap length none;
      patterns = λ k v got. absurd (no_element c.new-patterns.result.items k v none got);
    }

pub bundled-requires-in-loop-before : goal.bundled-requires-in-loop-before
bundled-requires-in-loop-before c = subst (λ n. AreWithin n c.arrows.result.now) (sym c.loop-before.invariant.begun) c.arrows.ensures.within

pub loop-before-preserved : goal.loop-before-preserved
loop-before-preserved c =
    let a = c.args.auto.now in
    let v = c.loop-before.invariant in
    let rows = c.loop-before.patterns.items in
    let row = c.in_ok-bundled.field-0 in
    let pushed = c.in_ok-push.ensures.items in
    let low = subst (λ n. AreLow n row.items) v.begun c.in_ok-bundled.ensures.low in
    let are = are_bundled a (s.ref_leaf (c.loop-before.before + 1)) c.arrows.result.now row.items c.arrows.ensures.within c.arrows.ensures.exact c.in_ok-bundled.ensures.edges low in
    record {
      begun = c.bundled-in-loop-before.ensures.begun ∙ v.begun;
      count = one_longer rows c.push.new.self.items row pushed ∙ ap (λ n. n + 1) v.count;
      patterns = each_pushed rows c.push.new.self.items row pushed (λ k w. AreBundled a (s.ref_leaf (k + 1)) w.items) v.patterns (subst (λ n. AreBundled a (s.ref_leaf (n + 1)) row.items) (sym v.count) are);
    }

pub returns : goal.returns
returns c =
    let a = c.args.auto.now in
    let v = c.loop-before.invariant in
    let zeros = c.in_ok-begun.ensures.items_if_clones_equal (λ y e. e) in
    let count : length c.in_ok-begun.begun.items ≡ states a = ap length zeros ∙ (length-replicate c.states-states.result 0 ∙ c.states-states.ensures.here) in
    let past = c.loop-before-test.false in
    let end = c.loop-before.auto.before-end in
    record {
      text = are_bundled a s.text_leaf c.text_arrows.result.now c.in_ok-text.text.items c.text_arrows.ensures.within c.text_arrows.ensures.exact c.in_ok-text.ensures.edges (subst (λ n. AreLow n c.in_ok-text.text.items) count c.in_ok-text.ensures.low);
      count = omega (arith, v.count, past, end, c.patterns-before-end.ensures.here);
      patterns = v.patterns;
      words = c.in_ok-words.ensures.count ∙ ap (λ n. (n + 63) / 64) c.states-states.ensures.here;
      current = c.in_ok-words.ensures.current;
    }
