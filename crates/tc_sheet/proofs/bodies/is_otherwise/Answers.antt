use Rattle.tc_sheet.proofs.BranchLaws.{element_no_branch}
use Rattle.tc_sheet.proofs.bodies.is_otherwise.Goals as goal

pub returns-else-is_xsl-2-clause-no : goal.returns-else-is_xsl-2-clause-no
returns-else-is_xsl-2-clause-no c = element_no_branch c.args.element.now c.if-is_xsl.ensures c.if-is_xsl-2.ensures c.misplaced.result c.misplaced.ensures

pub returns-else-is_xsl-2-clause-ok : goal.returns-else-is_xsl-2-clause-ok
returns-else-is_xsl-2-clause-ok c = tt
