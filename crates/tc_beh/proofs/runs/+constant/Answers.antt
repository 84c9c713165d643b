use Rattle.std.proofs.Common.{sym, ap, ◌∙◌, subst}
use Rattle.tc_model.specs.Views as see
use Rattle.tc_model.proofs.ViewsBody.{see_elem}
use Rattle.tc_beh.specs.Runs.{IsConstant}
use Rattle.tc_beh.proofs.runs.+constant.Goals as goal

pub is_constant-returns-in-Elem : goal.is_constant-returns-in-Elem
is_constant-returns-in-Elem t c = λ e rest h.
    subst IsConstant (sym (ap (λ i. see.instruction i rest) c.in-Elem.is ∙ see_elem c.in-Elem.field-0 c.in-Elem.inner rest)) (c.are_constant.ensures e, h)
