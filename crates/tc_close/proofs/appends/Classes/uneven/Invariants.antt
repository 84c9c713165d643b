use Rattle.std.proofs.Common.{◌<◌, ℕ}
use Rattle.tc_close.specs.Appends.{IsEvenAt}
use Rattle.tc_close.proofs.appends.Classes.uneven.Given as goal

abbrev pub invariant-loop-place : goal.invariant-loop-place
invariant-loop-place l = (j : ℕ) → j < l.place → IsEvenAt l.entries l.self l.flags l.numbers j
