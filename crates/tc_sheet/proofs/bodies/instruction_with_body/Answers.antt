use Rattle.std.proofs.Common.{ap, ◌∙◌, refl, sym}
use Rattle.tc_sheet.specs.Views.{body}
use Rattle.tc_sheet.specs.Begun.{around as around_seen}
use Rattle.tc_sheet.specs.declared.bodies.Head.{Head}
use Rattle.tc_sheet.proofs.ViewsWritten.{see_elem, see_copy, see_for_each}
use Rattle.tc_sheet.proofs.ReadLaws.{if_made}
use Rattle.tc_sheet.proofs.bodies.instruction_with_body.Goals as goal

pub returns-in-Element-clause-ok : goal.returns-in-Element-clause-ok
returns-in-Element-clause-ok c = λ rest. see_elem c.in-Element.name c.args.inner rest ∙ ap (λ (h : Head). around_seen h (body c.args.inner.now) rest) (sym c.in-Element.is)

pub returns-in-Copy-clause-ok : goal.returns-in-Copy-clause-ok
returns-in-Copy-clause-ok c = λ rest. see_copy c.args.inner rest ∙ ap (λ (h : Head). around_seen h (body c.args.inner.now) rest) (sym c.in-Copy.is)

pub returns-in-ForEach-clause-ok : goal.returns-in-ForEach-clause-ok
returns-in-ForEach-clause-ok c = λ rest. see_for_each c.in-ForEach.path c.args.inner rest ∙ ap (λ (h : Head). around_seen h (body c.args.inner.now) rest) (sym c.in-ForEach.is)

pub returns-in_ok-branch-in-If-clause-ok : goal.returns-in_ok-branch-in-If-clause-ok
returns-in_ok-branch-in-If-clause-ok c = λ rest. if_made c.from_ref.result _ _ _ c.from_ref.ensures.value c.in_ok-branch-in-If.ensures refl rest ∙ ap (λ (h : Head). around_seen h (body c.args.inner.now) rest) (sym c.in-If.is)

pub returns-in-Element-clause-no : goal.returns-in-Element-clause-no
returns-in-Element-clause-no c = tt

pub returns-in-Copy-clause-no : goal.returns-in-Copy-clause-no
returns-in-Copy-clause-no c = tt

pub returns-in-ForEach-clause-no : goal.returns-in-ForEach-clause-no
returns-in-ForEach-clause-no c = tt

pub returns-in_ok-branch-in-If-clause-no : goal.returns-in_ok-branch-in-If-clause-no
returns-in_ok-branch-in-If-clause-no c = tt
