use Rattle.std.proofs.Common.{rules}
use Rattle.tc_model.specs.States.{automaton}
use Rattle.tc_model.proofs.StatesExact.{sound}
use Rattle.tc_auto.proofs.Shown.{shown_as, interleave_shown}
use Rattle.tc_auto.proofs.nfa.interleave.Goals as goal

pub returns : goal.returns
returns c = λ p q first second. shown_as _ _ _ _ _ _ (interleave_shown (automaton p) (automaton q) (sound p) (sound q) _ _ _ _ _ _ first second) (search rules) (search rules)
