use Rattle.std.proofs.Common.{subst}
use Rattle.tc_steps.specs.Led.{AreLed}
use Rattle.tc_steps.proofs.MovingLaws.{one_states, led_of_copy}
use Rattle.tc_steps.proofs.moves.Moves.is_started.Goals as goal

pub returns : goal.returns
returns c = λ x n kids right is.
    let (t, at, same) = c.in_ok-ends.ensures.numbers in
    let one = one_states c.args.self.now.sets.sets.keys c.args.inner.now.states is.set t is.states at in
    c.is_started.ensures x n kids right.right is.known is.symbol (led_of_copy x n kids c.in_ok-ends.ends t same (subst (AreLed x n kids) one is.led))
