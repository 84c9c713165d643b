use Rattle.std.proofs.Common.{refl, arith}
use Rattle.tc_beh.proofs.lines.put_outputs.Goals as goal

pub loop-index-init : goal.loop-index-init
loop-index-init c = (record { flags = refl; entries = refl; count = refl }, λ k h. refl, λ i l. absurd (omega arith))

pub returns-clause-beside : goal.returns-clause-beside
returns-clause-beside c = c.loop-index.invariant.0

pub returns-clause-others : goal.returns-clause-others
returns-clause-others c = c.loop-index.invariant.1
