use Rattle.tc_run.proofs.FirstOfChildren.{one_step}
use Rattle.tc_run.proofs.children.is_all_children.Goals as goal

pub returns : goal.returns
returns c = λ h. one_step _ _ _ c.if-path-ne1.false c.if-steps-ne1.false (c.goes_to_all.ensures h)
