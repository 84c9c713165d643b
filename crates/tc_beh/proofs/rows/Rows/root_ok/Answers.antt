use Rattle.std.proofs.Common.{◌∙◌, sym, ap, subst, refl}
use Rattle.tc_mat.specs.Matrix.{Matrix}
use Rattle.tc_rows.specs.PairSets.{HaveSamePairs}
use Rattle.tc_beh.specs.Putting.{has}
use Rattle.tc_beh.specs.Roots.{root_pairs}
use Rattle.tc_beh.specs.Rooms.{tree_row}
use Rattle.tc_auto.specs.Stands.{Stands}
use Rattle.tc_auto.specs.declared.auto.Auto.{Auto}
use Rattle.tc_model.specs.States.{output}
use Rattle.tc_beh.proofs.Rooted.{is_root}
use Rattle.tc_beh.proofs.rows.Rows.root_ok.Goals as goal

pub returns-clause-rows : goal.returns-clause-rows
returns-clause-rows c = λ x are.
    record { machine = are.machine; size = are.size; work = c.put_root.ensures.work x (is_root x c.args.self.now c.args.t.now are (c.requires.tree x are)) }

pub returns-clause-passing : goal.returns-clause-passing
returns-clause-passing c = λ x are.
    let stands : Stands output x.output c.auto.result.now = subst (λ (a : Auto). Stands output x.output a) (sym c.auto.ensures) are.machine.parts.states.auto in
    let leads = c.leads_to_end.ensures x.output stands in
    let r = root_pairs x (tree_row x c.args.self.now.outputs.matrices c.args.t.now.room.numbers.items) in
    let same = subst (λ (m : Matrix). HaveSamePairs (has m) r) (sym c.out.ensures.out) (c.put_root.ensures.pairs x (is_root x c.args.self.now c.args.t.now are (c.requires.tree x are))) in (
      λ h. (let (j, pair, accepts) = leads.0 h in (j, (same 0 j).0 pair, accepts)),
      λ (j, pair, accepts). leads.1 (j, (same 0 j).1 pair, accepts),
    )

pub returns-clause-same : goal.returns-clause-same
returns-clause-same c = record { machine = refl; is_fixed = refl }

pub returns-clause-outputs : goal.returns-clause-outputs
returns-clause-outputs c = refl

pub put_root-requires : goal.put_root-requires
put_root-requires c = let (x, are) = c.requires.rows in (x, is_root x c.args.self.now c.args.t.now are (c.requires.tree x are))

pub leads_to_end-requires : goal.leads_to_end-requires
leads_to_end-requires c =
    let (x, are) = c.requires.rows in
    let stands : Stands output x.output c.auto.result.now = subst (λ (a : Auto). Stands output x.output a) (sym c.auto.ensures) are.machine.parts.states.auto in
    ap (λ (m : Matrix). m.size) c.out.ensures.out ∙ ((c.put_root.ensures.work x (is_root x c.args.self.now c.args.t.now are (c.requires.tree x are))).open_size ∙ sym stands.built.counted)
