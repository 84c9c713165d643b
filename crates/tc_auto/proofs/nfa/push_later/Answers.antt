use Rattle.tc_auto.specs.Steps.{unless_start, later}
use Rattle.std.proofs.Common.{arith, refl, ap, ◌∙◌, ◌++◌}
use Rattle.tc_auto.proofs.Loops.{end_inside, item_put, all_put_on}
use Rattle.tc_auto.proofs.nfa.push_later.Goals as goal

pub push_unless_start-requires : goal.push_unless_start-requires
push_unless_start-requires c = omega (arith, c.requires.room, end_inside c.args.second.now c.requires.within c.deref-end-items.result.now c.deref-end-items.ensures.value c.loop-end.end-index 0 c.loop-end-test.true)

pub loop-end-preserved : goal.loop-end-preserved
loop-end-preserved c = item_put (unless_start c.args.by) (later c.args.by) (λ _ _. refl) c.deref-end-items.result.now c.loop-end.end-index _ c.loop-end.ends.items c.push_unless_start.new.ends.items _ c.loop-end-test.true c.in_ok-push_unless_start.ensures c.loop-end.invariant

pub returns : goal.returns
returns c = all_put_on (later c.args.by) refl c.deref-end-items.result.now c.loop-end.end-index c.loop-end.ends.items _ c.loop-end-test.false c.loop-end.invariant ∙ ap (λ w. c.args.ends.now.items ++ (later c.args.by) w) c.deref-end-items.ensures.value

pub loop-end-init : goal.loop-end-init
loop-end-init c = refl
