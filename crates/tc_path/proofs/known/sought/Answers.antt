use Rattle.tc_path.proofs.known.sought.Goals as goal

pub loop-token-preserved : goal.loop-token-preserved
loop-token-preserved c = λ scope. c.in_ok-seek.ensures.ok scope (c.loop-token.invariant scope)
