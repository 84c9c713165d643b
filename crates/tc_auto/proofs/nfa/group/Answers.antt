use Rattle.std.proofs.Common.{rules}
use Rattle.std.specs.List.{Contains}
use Rattle.tc_model.specs.States.{automaton}
use Rattle.tc_model.proofs.StatesExact.{sound}
use Rattle.tc_auto.proofs.Lists.{has_of, contains_of}
use Rattle.tc_auto.proofs.Shown.{shown_as, group_of_both, group_of_second}
use Rattle.tc_auto.proofs.nfa.group.Goals.{then-has_start+in_ok-extend_from_slice, else-has_start}
use Rattle.tc_auto.proofs.nfa.group.Goals as goal

pub returns : goal.returns
returns c = λ p q first second. elim c.if-has_start.branch [
  | then-has_start+in_ok-extend_from_slice w ↦
      let at : Contains c.args.second.accepting.items 0 = search rules in
      shown_as _ _ _ _ _ _ (group_of_both (automaton p) (automaton q) (sound p) (sound q) _ _ _ _ _ _ first second (has_of _ 0 at)) (search rules) (search rules)
  | else-has_start w ↦
      let none = λ (at : Contains c.args.second.accepting.items 0). let no : ⊥ = search rules in no in
      shown_as _ _ _ _ _ _ (group_of_second (automaton p) (automaton q) (sound p) (sound q) _ _ _ _ _ _ first second (λ h. none (contains_of _ 0 h))) (search rules) (search rules)
]
