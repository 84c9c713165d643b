use Rattle.std.proofs.Common.{◌≡◌, take}
use Rattle.tc_close.specs.Lines.{sets_at}
use Rattle.tc_close.proofs.certificate.outputs_at.Given as goal

abbrev pub invariant-loop-place : goal.invariant-loop-place
invariant-loop-place g l = l.outputs ≡ sets_at l.rows (take l.place l.numbers)
