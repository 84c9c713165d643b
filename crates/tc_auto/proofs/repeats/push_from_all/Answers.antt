use Rattle.std.proofs.Common.{◌+◌, get_or, take, refl, sym, subst, Vec, Global}
use Rattle.tc_auto.specs.Repeats.{Gains, LeadsFromSome}
use Rattle.tc_auto.specs.declared.nfa.Transition.{Transition}
use Rattle.tc_auto.proofs.Gained.{gains_no_state, gains_state, all_states}
use Rattle.tc_auto.proofs.repeats.push_from_all.Goals.{in-Some+in_ok-push_from-in-Some, in-None+in_ok-push_from-in-None}
use Rattle.tc_auto.proofs.repeats.push_from_all.Goals as goal

pub loop-state-init : goal.loop-state-init
loop-state-init c = gains_no_state c.args.firsts.now c.args.steps.now.items

pub loop-state-preserved : goal.loop-state-preserved
loop-state-preserved c =
    elim c.match-get.branch [
      | in-Some+in_ok-push_from-in-Some w ↦
          subst (λ (v : Vec Transition Global). Gains c.args.steps.now.items v.items (LeadsFromSome (take (c.loop-state.state-index + 1) c.args.states.now) c.args.firsts.now)) (sym w.steps-is)
          (gains_state c.args.states.now c.args.firsts.now c.loop-state.state-index (get_or c.args.states.now c.loop-state.state-index 0) c.loop-state-test.true refl c.args.steps.now.items c.loop-state.steps.items w.push_from.new.steps.items c.loop-state.invariant w.in_ok-push_from-in-Some.ensures)
      | in-None+in_ok-push_from-in-None w ↦
          subst (λ (v : Vec Transition Global). Gains c.args.steps.now.items v.items (LeadsFromSome (take (c.loop-state.state-index + 1) c.args.states.now) c.args.firsts.now)) (sym w.steps-is)
          (gains_state c.args.states.now c.args.firsts.now c.loop-state.state-index (get_or c.args.states.now c.loop-state.state-index 0) c.loop-state-test.true refl c.args.steps.now.items c.loop-state.steps.items w.push_from-in-None.new.steps.items c.loop-state.invariant w.in_ok-push_from-in-None.ensures)
    ]

pub returns : goal.returns
returns c = all_states c.args.states.now c.args.firsts.now c.loop-state.state-index c.args.steps.now.items c.loop-state.steps.items c.loop-state-test.false c.loop-state.invariant
