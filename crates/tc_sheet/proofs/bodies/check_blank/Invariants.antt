use Rattle.std.proofs.Common.{drop}
use Rattle.tc_model.specs.Views.{raw_trees}
use Rattle.tc_sheet.proofs.KidLaws.{BlankLoop}
use Rattle.tc_sheet.proofs.bodies.check_blank.Given as goal

abbrev pub invariant-loop-kid : goal.invariant-loop-kid
invariant-loop-kid l = BlankLoop (raw_trees l.kids) (raw_trees (drop l.kid-index l.kids))
