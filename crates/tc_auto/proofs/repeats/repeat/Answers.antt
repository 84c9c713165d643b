use Rattle.std.proofs.Common.{subst, List, ℕ}
use Rattle.tc_model.specs.States.{automaton}
use Rattle.tc_auto.specs.Repeats.{Gains, LeadsFromSome}
use Rattle.tc_auto.specs.declared.nfa.Transition.{Transition}
use Rattle.tc_auto.proofs.Gained.{repeat_gained}
use Rattle.tc_auto.proofs.repeats.repeat.Goals as goal

pub returns : goal.returns
returns c = λ p one.
    repeat_gained (automaton p) c.args.part.count c.args.part.steps.items c.push_from_all.new.steps.items c.in_ok-firsts.firsts.items c.args.part.accepting.items one c.in_ok-firsts.ensures
    (subst (λ (w : List ℕ). Gains c.args.part.steps.items c.push_from_all.new.steps.items (LeadsFromSome w c.in_ok-firsts.firsts.items)) c.deref-2.ensures.value
    (subst (λ (w : List Transition). Gains c.args.part.steps.items c.push_from_all.new.steps.items (LeadsFromSome c.deref-2.result.now w)) c.deref-3.ensures.value c.in_ok-push_from_all.ensures))
