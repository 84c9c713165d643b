use Rattle.std.proofs.Common.{sym, subst}
use Rattle.tc_model.specs.RawTrees.{none}
use Rattle.tc_model.specs.SheetTextPhrases.{i_choose, IsBody}
use Rattle.tc_model.specs.Views.{name, raw_element}
use Rattle.tc_sheet.specs.Changes.{both}
use Rattle.tc_sheet.specs.LookedAt.{in_body}
use Rattle.tc_sheet.specs.Views.{body}
use Rattle.tc_sheet.proofs.BranchLaws.{without_when, empty_branches, choose_item}
use Rattle.tc_sheet.proofs.Refusals.{element_at}
use Rattle.tc_sheet.proofs.Unrefused.{instruction_unrefused}
use Rattle.tc_sheet.proofs.ViewsWritten.{see_choose}
use Rattle.tc_sheet.proofs.bodies.chosen.Goals as goal

pub returns-then-is_empty-clause-no : goal.returns-then-is_empty-clause-no
returns-then-is_empty-clause-no c = (
  element_at in_body c.args.element.now none (instruction_unrefused (name c.args.element.now.name) i_choose c.requires.choose),
  without_when c.args.element.now c.requires.choose (body c.args.last.now) (empty_branches c.args.branches.now (sym c.if-is_empty.ensures) c.requires.held) both,
)

pub returns-clause-ok : goal.returns-clause-ok
returns-clause-ok c = λ rest b y.
    subst (IsBody (raw_element c.args.element.now rest)) (sym (see_choose c.args.branches c.args.last b))
    (choose_item c.args.element.now c.requires.choose c.args.branches.now (body c.args.last.now) (sym c.if-is_empty.ensures) c.requires.only c.requires.held rest b y)

pub returns-then-is_empty-clause-ok : goal.returns-then-is_empty-clause-ok
returns-then-is_empty-clause-ok c = tt

pub returns-clause-no : goal.returns-clause-no
returns-clause-no c = tt
