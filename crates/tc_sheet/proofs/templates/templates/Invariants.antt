use Rattle.std.proofs.Common.{drop}
use Rattle.tc_model.specs.Views.{raw_trees}
use Rattle.tc_sheet.proofs.TemplateLaws.{TopLoop}
use Rattle.tc_sheet.proofs.templates.templates.Given as goal

abbrev pub invariant-loop-kid : goal.invariant-loop-kid
invariant-loop-kid l = TopLoop (raw_trees l.kids) (raw_trees (drop l.kid-index l.kids)) l.found.items
