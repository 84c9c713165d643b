use Rattle.std.proofs.Common.{◌∙◌, ap}
use Rattle.tc_model.specs.Views as seen
use Rattle.tc_dtd.specs.Views as see
use Rattle.tc_dtd.proofs.BuiltLaws.{references_end, references_more}
use Rattle.tc_dtd.proofs.patterns.text_and_references.Goals as goal

pub loop-name-preserved : goal.loop-name-preserved
loop-name-preserved c =
    references_more (see.names c.args.found.now.keys) c.args.names.now c.loop-name.name-index _ c.reference.result c.loop-name.out.items c.push.new.self.items c.loop-name-test.true c.reference.ensures c.in_ok-push.ensures.items
    ∙ c.loop-name.invariant

pub returns : goal.returns
returns c =
    ap seen.patterns c.into_bump_slice.ensures
    ∙ references_end (see.names c.args.found.now.keys) c.args.names.now c.loop-name.name-index c.loop-name.out.items _ c.loop-name-test.false c.loop-name.invariant
