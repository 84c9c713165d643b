use Rattle.std.proofs.Common.{◌≡◌, None, drop, map}
use Rattle.std.specs.List.{flat_map}
use Rattle.tc_model.specs.SimplifiesFaults.{first_answer, misplaced_in, bad_except_at}
use Rattle.tc_model.specs.SimplifiesParts.{nodes_in}
use Rattle.tc_rnc.specs.Views as see
use Rattle.tc_simple.proofs.checks.bad_except.Given as goal

abbrev pub invariant-loop-def : goal.invariant-loop-def
invariant-loop-def l = bad_except_at (see.syntax l.syntax) ≡ first_answer misplaced_in (flat_map (λ d. nodes_in d.body) (map see.definition (drop l.def-index l.def-items))) None
