use Rattle.std.proofs.Common.{map, sym, subst, take}
use Rattle.tc_rnc.specs.Views.{definition}
use Rattle.tc_simple.specs.Gathered.{IsGathered}
use Rattle.tc_simple.proofs.Gathering.{more_definitions}
use Rattle.tc_simple.proofs.Answered.{failed_ok}
use Rattle.tc_simple.proofs.groups.gather.Goals as goal

pub loop-def-preserved : goal.loop-def-preserved
loop-def-preserved c =
    let defs = c.args.syntax.now.defs.now in
    subst (λ z. IsGathered z c.take.new.self) (sym (more_definitions defs c.loop-def.def-index _ c.loop-def-test.true)) (c.in_ok-take.ensures (map definition (take c.loop-def.def-index defs)) c.loop-def.invariant)

pub returns-in_err-take : goal.returns-in_err-take
returns-in_err-take c = failed_ok c.from_residual.result _ _ c.from_residual.ensures.1
