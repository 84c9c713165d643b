use Rattle.tc_auto.specs.Steps.{pairs, all_pairs}
use Rattle.std.proofs.Common.{refl, ap, ◌∙◌, ◌++◌, List, ℕ}
use Rattle.tc_auto.proofs.Loops.{end_inside, item_put, all_put_on}
use Rattle.tc_auto.proofs.nfa.pairs_of_ends.Goals as goal

pub push_pairs-requires-clause-inside : goal.push_pairs-requires-clause-inside
push_pairs-requires-clause-inside c = end_inside c.args.first.now c.requires.within.0 c.deref-x-items.result.now c.deref-x-items.ensures.value c.loop-x.x-index 0 c.loop-x-test.true

pub loop-x-preserved : goal.loop-x-preserved
loop-x-preserved c = item_put (λ (x : ℕ). pairs c.args.second.now.count x c.args.second.now.accepting.items) (λ (xs : List ℕ). all_pairs c.args.second.now.count xs c.args.second.now.accepting.items) (λ _ _. refl) c.deref-x-items.result.now c.loop-x.x-index _ c.loop-x.ends.items c.push_pairs.new.ends.items _ c.loop-x-test.true c.in_ok-push_pairs.ensures c.loop-x.invariant

pub returns : goal.returns
returns c = all_put_on (λ (xs : List ℕ). all_pairs c.args.second.now.count xs c.args.second.now.accepting.items) refl c.deref-x-items.result.now c.loop-x.x-index c.loop-x.ends.items _ c.loop-x-test.false c.loop-x.invariant ∙ ap (λ w. (λ (xs : List ℕ). all_pairs c.args.second.now.count xs c.args.second.now.accepting.items) w) c.deref-x-items.ensures.value

pub push_pairs-requires-clause-within : goal.push_pairs-requires-clause-within
push_pairs-requires-clause-within c = c.requires.within.1

pub push_pairs-requires-clause-room : goal.push_pairs-requires-clause-room
push_pairs-requires-clause-room c = c.requires.room

pub loop-x-init : goal.loop-x-init
loop-x-init c = ap (λ (w : List ℕ). w ++ all_pairs c.args.second.now.count c.deref-x-items.result.now c.args.second.now.accepting.items) c.new-ends.ensures.items
