use Rattle.std.proofs.Common.{subst}
use Rattle.tc_steps.specs.Numbered.{AreStates}
use Rattle.tc_steps.specs.declared.known_sets.States.{States}
use Rattle.tc_steps.proofs.moves.Moves.remember_name.Goals as goal

pub returns-in-Numbered-clause-right : goal.returns-in-Numbered-clause-right
returns-in-Numbered-clause-right c = λ x right is. record {
  right = right.right;
  steps = right.steps;
  names = c.remember.ensures x _ _ _ right.names (record {
    symbol = is.symbol;
    known = is.known;
    states = is.set;
    states_at = subst (λ (z : States). AreStates c.args.self.now.sets.sets.keys z is.set) c.in-Numbered.is is.states;
    led = is.led;
  });
}
