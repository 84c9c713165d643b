use Rattle.std.proofs.Common.{drop}
use Rattle.tc_model.specs.Views.{raw_trees}
use Rattle.tc_sheet.proofs.BodyLaws.{BodyLoop}
use Rattle.tc_sheet.proofs.BranchLaws.{BranchLoop}
use Rattle.tc_sheet.proofs.bodies.+body.Given as goal

abbrev pub invariant-read_branches-loop-at : goal.invariant-read_branches-loop-at
invariant-read_branches-loop-at l = BranchLoop (raw_trees l.kids) (raw_trees (drop l.at l.kids)) l.found.items

abbrev pub invariant-body-loop-kid : goal.invariant-body-loop-kid
invariant-body-loop-kid l = BodyLoop (raw_trees l.kids) (raw_trees (drop l.kid-index l.kids)) l.found.items
