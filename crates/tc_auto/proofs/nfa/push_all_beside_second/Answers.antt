use Rattle.tc_auto.specs.Steps.{beside_second, all_beside_second}
use Rattle.tc_auto.specs.declared.nfa.Transition.{Transition}
use Rattle.std.proofs.Common.{refl, ap, ◌∙◌, ◌++◌, List}
use Rattle.tc_auto.proofs.Loops.{step_inside, item_put, all_put_on}
use Rattle.tc_auto.proofs.nfa.push_all_beside_second.Goals as goal

pub push_beside_second-requires-clause-within : goal.push_beside_second-requires-clause-within
push_beside_second-requires-clause-within c = step_inside c.args.first.now c.requires.within c.deref-step-items.result.now c.deref-step-items.ensures.value c.loop-step.step-index _ c.loop-step-test.true

pub loop-step-preserved : goal.loop-step-preserved
loop-step-preserved c = item_put (λ (x : Transition). beside_second x c.args.count c.args.count) (λ (xs : List Transition). all_beside_second xs c.args.count) (λ _ _. refl) c.deref-step-items.result.now c.loop-step.step-index _ c.loop-step.steps.items c.push_beside_second.new.steps.items _ c.loop-step-test.true c.in_ok-push_beside_second.ensures c.loop-step.invariant

pub returns : goal.returns
returns c = all_put_on (λ (xs : List Transition). all_beside_second xs c.args.count) refl c.deref-step-items.result.now c.loop-step.step-index c.loop-step.steps.items _ c.loop-step-test.false c.loop-step.invariant ∙ ap (λ w. c.args.steps.now.items ++ (λ (xs : List Transition). all_beside_second xs c.args.count) w) c.deref-step-items.ensures.value

pub push_beside_second-requires-clause-room : goal.push_beside_second-requires-clause-room
push_beside_second-requires-clause-room c = c.requires.room

pub loop-step-init : goal.loop-step-init
loop-step-init c = refl
