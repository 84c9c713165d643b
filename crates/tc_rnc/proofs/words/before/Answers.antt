use Rattle.std.proofs.Common.{◌-◌, ◌∙◌, length, refl}
use Rattle.tc_scan.proofs.FrontLaws.{same_range}
use Rattle.tc_scan.proofs.NamesLaws.{cut_at_rest}
use Rattle.tc_rnc.proofs.WordLaws.{cut_front}
use Rattle.tc_rnc.proofs.words.before.Goals as goal

pub range-requires-clause-end_boundary : goal.range-requires-clause-end_boundary
range-requires-clause-end_boundary c =
    cut_at_rest c.args.text.now c.requires.0 c.args.end.now (length c.args.text.now - length c.args.end.now) c.requires.1 c.utf8.end refl

pub returns : goal.returns
returns c = λ front e. cut_front c.args.text.now c.args.end.now c.range.result.now front (c.range.ensures.value ∙ same_range _ c.args.text.now) e
