use Rattle.std.proofs.Common.{map, take}
use Rattle.tc_rnc.specs.Views.{definition}
use Rattle.tc_simple.specs.Gathered.{IsGathered}
use Rattle.tc_simple.proofs.groups.gather.Given as goal

abbrev pub invariant-loop-def : goal.invariant-loop-def
invariant-loop-def l = IsGathered (map definition (take l.def-index l.def-items)) l.gathered
