use Rattle.std.proofs.Common.{◌∙◌, sym}
use Rattle.tc_model.specs.Views.{place}
use Rattle.tc_model.specs.SimplifiesFaults.{misplaced_in}
use Rattle.tc_simple.proofs.Answered.{definitions_here, definitions_next}
use Rattle.tc_simple.proofs.checks.bad_except.Goals as goal

pub returns-in-Some : goal.returns-in-Some
returns-in-Some c =
    sym (c.loop-def.invariant ∙ definitions_here misplaced_in c.args.syntax.now.defs.now c.loop-def.def-index _ (place c.in-Some.place) c.loop-def-test.true c.in-Some.ensures)

pub loop-def-preserved : goal.loop-def-preserved
loop-def-preserved c = c.loop-def.invariant ∙ definitions_next misplaced_in c.args.syntax.now.defs.now c.loop-def.def-index _ c.loop-def-test.true c.in_default.ensures
