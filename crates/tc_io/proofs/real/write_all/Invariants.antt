use Rattle.std.proofs.Common.{◌≡◌, List, ℕ, ◌++◌}
use Rattle.std.specs.Io.KnownBytes.{Appends}
use Rattle.tc_io.proofs.real.write_all.Given as goal

abbrev pub invariant-loop : goal.invariant-loop
invariant-loop g l = (front : List ℕ) × (front ++ l.rest ≡ l.fn.piece) × Appends (g.W.Write.contents l.fn.out) (g.W.Write.contents l.out) front
