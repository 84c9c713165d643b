use Rattle.tc_steps.proofs.moves.Moves.start.Goals as goal

pub returns-in-Some-clause-element : goal.returns-in-Some-clause-element
returns-in-Some-clause-element c = λ x right.
    let i = c.in-Some.ensures x _ _ _ right.names in record { symbol = i.symbol; known = i.known; set = i.states; states = i.states_at; led = i.led }
