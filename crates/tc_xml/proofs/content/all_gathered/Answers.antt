use Rattle.tc_model.specs.RawTrees.{none}
use Rattle.tc_xml.proofs.GatherLaws.{gathered_alone}
use Rattle.tc_xml.proofs.content.all_gathered.Goals as goal

pub returns : goal.returns
returns c = gathered_alone c.into_bump_slice.result.now c.end_run.new.gathered c.args.gathered c.into_bump_slice.ensures c.in_ok-end_run.ensures.ended (c.in_ok-end_run.ensures.kept none tt)
