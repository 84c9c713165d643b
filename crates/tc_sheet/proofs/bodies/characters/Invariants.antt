use Rattle.std.proofs.Common.{drop}
use Rattle.std.specs.String.{string_bytes}
use Rattle.tc_model.specs.Views.{raw_trees}
use Rattle.tc_sheet.proofs.KidLaws.{TextLoop}
use Rattle.tc_sheet.proofs.bodies.characters.Given as goal

abbrev pub invariant-loop-kid : goal.invariant-loop-kid
invariant-loop-kid l = TextLoop (raw_trees l.kids) (raw_trees (drop l.kid-index l.kids)) (string_bytes l.all)
