use Rattle.std.proofs.Common.{◌∙◌, sym, ap, subst}
use Rattle.tc_model.specs.States.{output}
use Rattle.tc_auto.specs.Stands as a
use Rattle.tc_auto.specs.declared.auto.Auto.{Auto}
use Rattle.tc_mat.specs.Held.{Held}
use Rattle.tc_beh.proofs.Passing.{if_ok_map}
use Rattle.tc_beh.proofs.rows.Rows.new.Goals as goal

pub returns-clause-stands : goal.returns-clause-stands
returns-clause-stands c =
    if_ok_map c.over.result _ _ (λ r stands x is.
    let auto : a.Stands output x.output c.auto.result.now = subst (λ (b : Auto). a.Stands output x.output b) (sym c.auto.ensures) is.parts.states.auto in
    stands x is (ap (λ (h : Held). h.size) c.new-pool.ensures ∙ c.states.ensures.schema output x.output auto))
    c.over.ensures.stands

pub returns-clause-none : goal.returns-clause-none
returns-clause-none c =
    if_ok_map c.over.result _ _ (λ r e. ap (λ (h : Held). h.matrices) (e ∙ c.new-pool.ensures)) c.over.ensures.outputs
