use Rattle.std.proofs.Common.{◌≡◌, ◌++◌, map, drop}
use Rattle.tc_dead.specs.Views.{seen}
use Rattle.tc_decide.specs.MachinesSeen.{IsReadOf}
use Rattle.tc_decide.proofs.SpotsTold.{spots_told, AreTold}
use Rattle.tc_model.specs.Grammars.{Grammar}
use Rattle.tc_model.specs.Views as see
use Rattle.tc_decide.proofs.spots.told_of_all.Given as goal

abbrev pub invariant-loop-index : goal.invariant-loop-index
invariant-loop-index l = record {
  spots : spots_told l.found.items ++ map seen (drop l.index l.spots) ≡ map seen l.spots;
  told : (i : Grammar) → IsReadOf i l.marking.input → AreTold i (see.sheet l.marking.sheet) l.found.items;
}
