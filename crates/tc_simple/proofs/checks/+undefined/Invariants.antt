use Rattle.std.proofs.Common.{◌≡◌, None, drop}
use Rattle.tc_model.specs.CompactSyntaxTrees.{Syntax}
use Rattle.tc_model.specs.SimplifiesFaults.{first_answer, undefined_reference}
use Rattle.tc_model.specs.SimplifiesParts.{nodes_in_all}
use Rattle.tc_rnc.specs.Views as see
use Rattle.tc_simple.specs.Tables.{IsTable}
use Rattle.tc_simple.proofs.checks.+undefined.Given as goal

abbrev pub invariant-undefined_among-loop-pattern : goal.invariant-undefined_among-loop-pattern
invariant-undefined_among-loop-pattern l = (s : Syntax) → IsTable s l.table → first_answer (undefined_reference s) (nodes_in_all (see.patterns l.patterns)) None ≡ first_answer (undefined_reference s) (nodes_in_all (see.patterns (drop l.pattern-index l.patterns))) None
