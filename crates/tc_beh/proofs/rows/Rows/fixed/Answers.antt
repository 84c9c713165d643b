use Rattle.std.proofs.Common.{◌≡◌, ◌∙◌, sym, ap, subst, get_or}
use Rattle.tc_model.specs.States.{output}
use Rattle.tc_auto.specs.Stands as a
use Rattle.tc_auto.specs.declared.auto.Auto.{Auto}
use Rattle.tc_mat.specs.Held.{Held}
use Rattle.tc_rows.specs.Triples.{outputs}
use Rattle.tc_rows.specs.PairSets.{IsPairs}
use Rattle.tc_beh.specs.Outs.{sets_of}
use Rattle.tc_beh.proofs.Passing.{if_ok_map}
use Rattle.tc_beh.proofs.Steps.{no_value}
use Rattle.tc_beh.proofs.rows.Rows.fixed.Goals as goal

pub pool_of-requires-clause-pairs : goal.pool_of-requires-clause-pairs
pool_of-requires-clause-pairs c = λ k d low.
    let (x, is) = c.requires.machine in
    let stands : a.Stands output x.output c.auto.result.now = subst (λ (b : Auto). a.Stands output x.output b) (sym c.auto.ensures) is.parts.states.auto in
    let size : c.states.result ≡ outputs x = c.states.ensures.schema output x.output stands in
    subst (λ n. IsPairs n (get_or c.args.outputs.now k d)) (sym size) (c.requires.pairs x is k d low)

pub returns-clause-stands : goal.returns-clause-stands
returns-clause-stands c =
    if_ok_map c.over.result _ _ (λ r stands x is.
    let auto : a.Stands output x.output c.auto.result.now = subst (λ (b : Auto). a.Stands output x.output b) (sym c.auto.ensures) is.parts.states.auto in
    stands x is (c.in_ok-pool.ensures.size ∙ c.states.ensures.schema output x.output auto))
    c.over.ensures.stands

pub returns-clause-sets : goal.returns-clause-sets
returns-clause-sets c =
    if_ok_map c.over.result _ _ (λ r e. ap (λ (h : Held). sets_of h.matrices) e ∙ c.in_ok-pool.ensures.sets) c.over.ensures.outputs

pub returns-in_err-pool-clause-stands : goal.returns-in_err-pool-clause-stands
returns-in_err-pool-clause-stands c = no_value c.from_residual.result _ _ c.from_residual.ensures.1

pub returns-in_err-pool-clause-sets : goal.returns-in_err-pool-clause-sets
returns-in_err-pool-clause-sets c = no_value c.from_residual.result _ _ c.from_residual.ensures.1

pub returns-in_err-pool-clause-fixed : goal.returns-in_err-pool-clause-fixed
returns-in_err-pool-clause-fixed c = no_value c.from_residual.result _ _ c.from_residual.ensures.1

pub returns-in_err-pool-clause-machine : goal.returns-in_err-pool-clause-machine
returns-in_err-pool-clause-machine c = no_value c.from_residual.result _ _ c.from_residual.ensures.1
