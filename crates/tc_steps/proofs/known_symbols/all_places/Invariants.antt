use Rattle.std.proofs.Common.{List, All}
use Rattle.tc_model.specs.Symbols.{Mention}
use Rattle.tc_steps.specs.Remembered.{IsRight}
use Rattle.tc_steps.proofs.known_symbols.all_places.Given as goal

abbrev pub invariant-loop-place : goal.invariant-loop-place
invariant-loop-place l = (symbols : List Mention) → All (IsRight symbols) l.places.items
