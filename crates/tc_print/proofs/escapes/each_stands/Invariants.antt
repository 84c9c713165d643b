use Rattle.std.proofs.Common.{◌≡◌, ◌<◌, ℕ, [], ◌∷◌, get_or}
use Rattle.tc_print.specs.Pieces.{escaped}
use Rattle.tc_print.proofs.escapes.each_stands.Given as goal

abbrev pub invariant-loop-byte : goal.invariant-loop-byte
invariant-loop-byte l = (k : ℕ) → k < l.byte-index → escaped l.within (get_or l.bytes k 0) ≡ get_or l.bytes k 0 ∷ []
