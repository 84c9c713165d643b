use Rattle.std.proofs.Common.{◌≡◌, [], drop, map}
use Rattle.tc_model.specs.SimplifiesFaults.{first_definition}
use Rattle.tc_model.specs.SimplifiesParts.{definitions_of}
use Rattle.tc_rnc.specs.Views as see
use Rattle.tc_simple.proofs.resolve.start_place.Given as goal

abbrev pub invariant-loop-def : goal.invariant-loop-def
invariant-loop-def l = first_definition (definitions_of (see.syntax l.syntax).definitions []) ≡ first_definition (definitions_of (map see.definition (drop l.def-index l.def-items)) [])
