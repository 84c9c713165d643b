use Rattle.std.proofs.Common.{drop}
use Rattle.tc_model.specs.Views as see
use Rattle.tc_close.specs.LookFree.{IsFreeBody}
use Rattle.tc_close.proofs.look_free.+free.Given as goal

-- what is left decides
abbrev pub invariant-are_free-loop-instruction : goal.invariant-are_free-loop-instruction
invariant-are_free-loop-instruction l = IsFreeBody l.calls (see.body (drop l.instruction-index l.body)) → IsFreeBody l.calls (see.body l.body)
