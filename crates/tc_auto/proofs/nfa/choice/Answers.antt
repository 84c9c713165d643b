use Rattle.std.proofs.Common.{rules}
use Rattle.std.specs.List.{Contains}
use Rattle.tc_model.specs.States.{automaton}
use Rattle.tc_model.proofs.StatesExact.{sound}
use Rattle.tc_auto.proofs.Lists.{has_of, contains_of}
use Rattle.tc_auto.proofs.Shown.{shown_as, choice_of_both, choice_with_start}
use Rattle.tc_auto.proofs.nfa.choice.Goals.{then-adds_start+in_ok-push, else-adds_start}
use Rattle.tc_auto.proofs.nfa.choice.Goals as goal

pub returns : goal.returns
returns c = λ p q first second. elim c.if-adds_start.branch [
  | then-adds_start+in_ok-push w ↦
      let at : Contains c.args.second.accepting.items 0 = search rules in
      shown_as _ _ _ _ _ _ (choice_with_start (automaton p) (automaton q) (sound p) (sound q) _ _ _ _ _ _ first second (has_of _ 0 at)) (search rules) (search rules)
  | else-adds_start w ↦
      let kept = λ (at : Contains c.args.second.accepting.items 0). let yes : Contains c.args.first.accepting.items 0 = search rules in yes in
      shown_as _ _ _ _ _ _ (choice_of_both (automaton p) (automaton q) (sound p) (sound q) _ _ _ _ _ _ first second (λ h. has_of _ 0 (kept (contains_of _ 0 h)))) (search rules) (search rules)
]
