use Rattle.std.proofs.Common.{get_or, refl}
use Rattle.std.proofs.lemmas.List.{get_or_default}
use Rattle.tc_auto.specs.declared.auto.Leaf.TheVariants.{Text}
use Rattle.tc_auto.specs.declared.nfa.Transition.{Transition}
use Rattle.tc_auto.proofs.Gained.{gains_no_first, gains_first, all_firsts}
use Rattle.tc_auto.proofs.repeats.push_from.Goals as goal

any_step : Transition
any_step = record { from = 0; leaf = Text; to = 0 }

pub loop-place-init : goal.loop-place-init
loop-place-init c = gains_no_first c.args.from c.args.steps.now.items

pub loop-place-preserved : goal.loop-place-preserved
unfolding any_step
loop-place-preserved c =
    gains_first c.args.from c.args.firsts.now c.loop-place.place (get_or c.args.firsts.now c.loop-place.place any_step) c.loop-place-test.true
    (get_or_default c.args.firsts.now c.loop-place.place any_step (get_or c.args.firsts.now c.loop-place.place any_step) c.loop-place-test.true)
    _ refl refl refl c.args.steps.now.items c.loop-place.steps.items c.push_unless_at.new.steps.items c.loop-place.invariant c.in_ok-push_unless_at.ensures

pub returns : goal.returns
returns c = all_firsts c.args.from c.args.firsts.now c.loop-place.place c.args.steps.now.items c.loop-place.steps.items c.loop-place-test.false c.loop-place.invariant
