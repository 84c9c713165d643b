use Rattle.std.proofs.Common.{◌∙◌}
use Rattle.tc_dtd.proofs.BuiltLaws.{marked_step}
use Rattle.tc_dtd.proofs.links.marked.Goals as goal

pub loop-number-preserved : goal.loop-number-preserved
loop-number-preserved c =
    marked_step c.args.marks.now c.args.decls.now c.loop-number.number _ c.loop-number.out.items c.put_kept.new.out.items c.loop-number-test.true c.in_ok-put_kept.ensures ∙ c.loop-number.invariant
