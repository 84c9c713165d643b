use Rattle.std.proofs.Common.{sym, ap, ◌∙◌, subst}
use Rattle.tc_model.specs.Views as see
use Rattle.tc_model.proofs.ViewsBody.{see_elem, see_copy}
use Rattle.tc_close.specs.LookFree.{IsFreeBody}
use Rattle.tc_close.proofs.look_free.+free.Goals as goal

pub is_free-returns-in-Elem : goal.is_free-returns-in-Elem
is_free-returns-in-Elem t c = λ e rest h.
    subst (IsFreeBody c.args.calls) (sym (ap (λ i. see.instruction i rest) c.in-Elem.is ∙ see_elem c.in-Elem.field-0 c.in-Elem.inner rest)) (c.are_free.ensures e, h)

pub is_free-returns-in-Copy : goal.is_free-returns-in-Copy
is_free-returns-in-Copy t c = λ e rest h.
    subst (IsFreeBody c.args.calls) (sym (ap (λ i. see.instruction i rest) c.in-Copy.is ∙ see_copy c.in-Copy.inner rest)) (c.are_free-in-Copy.ensures e, h)
