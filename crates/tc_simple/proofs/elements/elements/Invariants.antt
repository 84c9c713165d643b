use Rattle.std.proofs.Common.{◌≡◌, map, take}
use Rattle.tc_rnc.specs.Views as see
use Rattle.tc_simple.specs.Nodes.{elements_of, see_element}
use Rattle.tc_simple.proofs.elements.elements.Given as goal

abbrev pub invariant-loop-def : goal.invariant-loop-def
invariant-loop-def l = map see_element l.found.items ≡ elements_of l.table l.marks (map see.definition (take l.def-index l.def-items))
