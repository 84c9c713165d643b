use Rattle.tc_auto.specs.Steps.{from_each}
use Rattle.tc_auto.proofs.Loops.{item_put, all_put_on}
use Rattle.std.proofs.Common.{ℕ, List, refl, [], ◌∷◌}
use Rattle.tc_auto.proofs.nfa.push_from_each.Goals as goal

pub loop-start-preserved : goal.loop-start-preserved
loop-start-preserved c = item_put (λ (x : ℕ). from_each (x ∷ []) c.args.leaf c.args.to) (λ (xs : List ℕ). from_each xs c.args.leaf c.args.to) (λ _ _. refl) c.args.starts.now c.loop-start.start-index _ c.loop-start.steps.items c.push.new.self.items _ c.loop-start-test.true c.in_ok-push.ensures.items c.loop-start.invariant

pub returns : goal.returns
returns c = all_put_on (λ (xs : List ℕ). from_each xs c.args.leaf c.args.to) refl c.args.starts.now c.loop-start.start-index c.loop-start.steps.items _ c.loop-start-test.false c.loop-start.invariant

pub loop-start-init : goal.loop-start-init
loop-start-init c = refl
