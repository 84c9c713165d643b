use Rattle.tc_auto.specs.Steps.{moved, carried}
use Rattle.std.proofs.Common.{arith, refl, ap, ◌∙◌, ◌++◌}
use Rattle.tc_auto.specs.declared.auto.Leaf.TheVariants.{Text}
use Rattle.tc_auto.proofs.Loops.{step_inside, item_put, all_put_on}
use Rattle.tc_auto.proofs.nfa.push_all_moved.Goals as goal

pub push_moved-requires-clause-from : goal.push_moved-requires-clause-from
push_moved-requires-clause-from c = omega (arith, c.requires.room, step_inside c.args.second.now c.requires.within c.deref-step-items.result.now c.deref-step-items.ensures.value c.loop-step.step-index (record { from = 0; leaf = Text; to = 0 }) c.loop-step-test.true)

pub push_moved-requires-clause-to : goal.push_moved-requires-clause-to
push_moved-requires-clause-to c = omega (arith, c.requires.room, step_inside c.args.second.now c.requires.within c.deref-step-items.result.now c.deref-step-items.ensures.value c.loop-step.step-index (record { from = 0; leaf = Text; to = 0 }) c.loop-step-test.true)

pub loop-step-preserved : goal.loop-step-preserved
loop-step-preserved c = item_put (moved c.args.by c.args.starts.now) (carried c.args.by c.args.starts.now) (λ _ _. refl) c.deref-step-items.result.now c.loop-step.step-index _ c.loop-step.steps.items c.push_moved.new.steps.items _ c.loop-step-test.true c.in_ok-push_moved.ensures c.loop-step.invariant

pub returns : goal.returns
returns c = all_put_on (carried c.args.by c.args.starts.now) refl c.deref-step-items.result.now c.loop-step.step-index c.loop-step.steps.items _ c.loop-step-test.false c.loop-step.invariant ∙ ap (λ w. c.args.steps.now.items ++ (carried c.args.by c.args.starts.now) w) c.deref-step-items.ensures.value

pub loop-step-init : goal.loop-step-init
loop-step-init c = refl
