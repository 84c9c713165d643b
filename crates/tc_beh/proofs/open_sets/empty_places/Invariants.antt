use Rattle.std.proofs.Common.{◌≡◌, length, All, Some}
use Rattle.tc_beh.specs.declared.open_sets.OpenSet.{OpenSet}
use Rattle.tc_beh.proofs.open_sets.empty_places.Given as goal

abbrev pub invariant-loop : goal.invariant-loop
invariant-loop l = (length l.places.items ≡ l.counter) × All (λ (o : OpenSet). (o.number ≡ Some l.number) × (o.words.size ≡ l.size)) l.places.items
