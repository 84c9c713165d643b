use Rattle.std.proofs.Common.{◌∙◌, sym}
use Rattle.tc_model.specs.Views.{place}
use Rattle.tc_model.specs.SimplifiesFaults.{undefined_reference}
use Rattle.tc_rnc.specs.Views.{syntax}
use Rattle.tc_simple.proofs.Answered.{definitions_here, definitions_next}
use Rattle.tc_simple.proofs.checks.undefined.Goals as goal

pub returns-in-Some : goal.returns-in-Some
returns-in-Some c = λ h.
    let f = undefined_reference (syntax c.args.syntax.now) in
    sym (c.loop-def.invariant h ∙ definitions_here f c.args.syntax.now.defs.now c.loop-def.def-index _ (place c.in-Some.place) c.loop-def-test.true (c.in-Some.ensures (syntax c.args.syntax.now) h))

pub loop-def-preserved : goal.loop-def-preserved
loop-def-preserved c = λ h.
    let f = undefined_reference (syntax c.args.syntax.now) in
    c.loop-def.invariant h ∙ definitions_next f c.args.syntax.now.defs.now c.loop-def.def-index _ c.loop-def-test.true (c.in_default.ensures (syntax c.args.syntax.now) h)
