use Rattle.tc_auto.specs.Steps.{pairs}
use Rattle.std.proofs.Common.{refl, ap, ◌∙◌, ◌++◌, ℕ, [], ◌∷◌}
use Rattle.tc_auto.proofs.Loops.{end_inside, pair_inside, item_put, all_put_on}
use Rattle.tc_auto.proofs.nfa.push_pairs.Goals as goal

pub pair-requires : goal.pair-requires
pair-requires c =
    let inside = end_inside c.args.others.now c.requires.within c.deref-y-items.result.now c.deref-y-items.ensures.value c.loop-y.y-index 0 c.loop-y-test.true in
    pair_inside c.args.x _ c.args.first_count c.args.others.now.count _ c.requires.inside inside c.requires.room

pub loop-y-preserved : goal.loop-y-preserved
loop-y-preserved c = item_put (λ (y : ℕ). pairs c.args.others.now.count c.args.x (y ∷ [])) (pairs c.args.others.now.count c.args.x) (λ _ _. refl) c.deref-y-items.result.now c.loop-y.y-index _ c.loop-y.ends.items c.push.new.self.items _ c.loop-y-test.true (c.in_ok-push.ensures.items ∙ ap (λ (n : ℕ). c.loop-y.ends.items ++ n ∷ []) c.pair.ensures) c.loop-y.invariant

pub returns : goal.returns
returns c = all_put_on (pairs c.args.others.now.count c.args.x) refl c.deref-y-items.result.now c.loop-y.y-index c.loop-y.ends.items _ c.loop-y-test.false c.loop-y.invariant ∙ ap (λ w. c.args.ends.now.items ++ (pairs c.args.others.now.count c.args.x) w) c.deref-y-items.ensures.value

pub loop-y-init : goal.loop-y-init
loop-y-init c = refl
