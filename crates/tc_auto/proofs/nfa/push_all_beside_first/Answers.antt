use Rattle.tc_auto.specs.Steps.{beside_first, all_beside_first}
use Rattle.tc_auto.specs.declared.nfa.Transition.{Transition}
use Rattle.std.proofs.Common.{refl, ap, ◌∙◌, ◌++◌, List}
use Rattle.tc_auto.proofs.Loops.{step_inside, item_put, all_put_on}
use Rattle.tc_auto.proofs.nfa.push_all_beside_first.Goals as goal

pub push_beside_first-requires-clause-within : goal.push_beside_first-requires-clause-within
push_beside_first-requires-clause-within c = step_inside c.args.second.now c.requires.within c.deref-step-items.result.now c.deref-step-items.ensures.value c.loop-step.step-index _ c.loop-step-test.true

pub loop-step-preserved : goal.loop-step-preserved
loop-step-preserved c = item_put (λ (x : Transition). beside_first x c.args.second.now.count c.args.first_count) (λ (xs : List Transition). all_beside_first xs c.args.second.now.count c.args.first_count) (λ _ _. refl) c.deref-step-items.result.now c.loop-step.step-index _ c.loop-step.steps.items c.push_beside_first.new.steps.items _ c.loop-step-test.true c.in_ok-push_beside_first.ensures c.loop-step.invariant

pub returns : goal.returns
returns c = all_put_on (λ (xs : List Transition). all_beside_first xs c.args.second.now.count c.args.first_count) refl c.deref-step-items.result.now c.loop-step.step-index c.loop-step.steps.items _ c.loop-step-test.false c.loop-step.invariant ∙ ap (λ w. c.args.steps.now.items ++ (λ (xs : List Transition). all_beside_first xs c.args.second.now.count c.args.first_count) w) c.deref-step-items.ensures.value

pub push_beside_first-requires-clause-room : goal.push_beside_first-requires-clause-room
push_beside_first-requires-clause-room c = c.requires.room

pub loop-step-init : goal.loop-step-init
loop-step-init c = refl
