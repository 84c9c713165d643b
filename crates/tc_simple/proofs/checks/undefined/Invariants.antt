use Rattle.std.proofs.Common.{◌≡◌, None, drop, map}
use Rattle.std.specs.List.{flat_map}
use Rattle.tc_model.specs.SimplifiesFaults.{first_answer, undefined_reference}
use Rattle.tc_model.specs.SimplifiesParts.{nodes_in, nodes_of}
use Rattle.tc_rnc.specs.Views as see
use Rattle.tc_simple.specs.Tables.{IsTable}
use Rattle.tc_simple.proofs.checks.undefined.Given as goal

abbrev pub invariant-loop-def : goal.invariant-loop-def
invariant-loop-def l = IsTable (see.syntax l.syntax) l.table
    → first_answer (undefined_reference (see.syntax l.syntax)) (nodes_of (see.syntax l.syntax)) None ≡ first_answer (undefined_reference (see.syntax l.syntax)) (flat_map (λ d. nodes_in d.body) (map see.definition (drop l.def-index l.def-items))) None
