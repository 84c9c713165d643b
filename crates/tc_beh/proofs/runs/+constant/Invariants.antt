use Rattle.std.proofs.Common.{drop}
use Rattle.tc_model.specs.Views as see
use Rattle.tc_beh.specs.Runs.{IsConstant}
use Rattle.tc_beh.proofs.runs.+constant.Given as goal

-- what is left decides
abbrev pub invariant-are_constant-loop-instruction : goal.invariant-are_constant-loop-instruction
invariant-are_constant-loop-instruction l = IsConstant (see.body (drop l.instruction-index l.body)) → IsConstant (see.body l.body)
