use Rattle.std.proofs.Common.{◌∙◌, sym, subst, refl, arith}
use Rattle.tc_model.specs.States.{input}
use Rattle.tc_auto.specs.Stands.{Stands}
use Rattle.tc_auto.specs.declared.auto.Auto.{Auto}
use Rattle.tc_mat.specs.Held.{Held}
use Rattle.tc_beh.specs.Held.{Grows}
use Rattle.tc_beh.specs.Outs.{GrowsBy}
use Rattle.tc_beh.specs.Rooms.{output_at}
use Rattle.tc_beh.proofs.Nodes.{work_set}
use Rattle.tc_beh.proofs.Together.{on_ok_both, on_ok_map, on_err_map}
use Rattle.tc_beh.proofs.Emptied.{emptied, none_came, left_out_of_empty}
use Rattle.tc_beh.proofs.rows.Rows.empty_row.Goals as goal

pub returns-clause-row : goal.returns-clause-row
returns-clause-row c =
    on_ok_both c.put_empty.result _ _ _ c.put_empty.ensures.numbers c.put_empty.ensures.grows
    (λ numbers grows. λ x is.
    let out = c.requires.room x is in
    let put = c.put_empty.ensures in
    let (room, row) =
    emptied x c.auto.result.now (subst (λ (a : Auto). Stands input x.input a) (sym c.auto.ensures) is.machine.parts.contents.auto) c.put_empty.new.outputs put.matrices (put.held.size ∙ is.size) c.args.out.now.room.flags
    c.args.out.now.room.entries out.flags out.entries c.put_empty.new.out.numbers.items (put.beside.count ∙ out.count) numbers grows.low
    in (
      record {
        parted = record { flags = put.beside.flags ∙ out.flags; entries = put.beside.entries ∙ out.entries; count = put.beside.count ∙ out.count };
        numbers = room;
      },
      row,
    ))

pub returns-clause-partly : goal.returns-clause-partly
returns-clause-partly c =
    on_err_map c.put_empty.result _ _
    (λ err. λ x r is row.
    let (same, some, fresh) = err in
    let out = (c.requires.room x is).entries in
    let put = c.put_empty.ensures in
    let came : GrowsBy c.put_empty.new.outputs c.put_empty.new.outputs r.entries = none_came x r row c.put_empty.new.outputs in (
      subst (λ (h : Held). GrowsBy h c.put_empty.new.outputs r.entries) same came,
      left_out_of_empty x r row c.put_empty.new.outputs put.matrices (put.held.size ∙ is.size) (omega (arith, some, out)) fresh,
    ))
    c.put_empty.ensures.err

pub returns-clause-same : goal.returns-clause-same
returns-clause-same c = record { machine = refl; is_fixed = refl }

pub returns-clause-room : goal.returns-clause-room
returns-clause-room c = c.put_empty.ensures.beside

pub returns-clause-held : goal.returns-clause-held
returns-clause-held c = c.put_empty.ensures.held

pub returns-clause-rows : goal.returns-clause-rows
returns-clause-rows c = λ x is.
    let put = c.put_empty.ensures in
    record {
      machine = is.machine;
      size = put.held.size ∙ is.size;
      work = work_set x c.args.self.now.machine.now c.args.self.now.outputs c.args.self.now.work is.work c.put_empty.new.outputs put.held c.put_empty.new.set put.set;
    }

pub returns-clause-grows : goal.returns-clause-grows
returns-clause-grows c =
    let old = c.args.self.now.outputs in
    let new = c.put_empty.new.outputs in
    let us = c.put_empty.new.out.numbers.items in
    let beside = c.put_empty.ensures.beside in
    on_ok_map c.put_empty.result _ _
    (λ grows. subst (λ n. Grows old new (output_at c.put_empty.new.out.flags us) n) (sym beside.entries) (subst (λ f. Grows old new (output_at f us) c.args.out.now.room.entries) (sym beside.flags) grows))
    c.put_empty.ensures.grows

pub returns-clause-fixed : goal.returns-clause-fixed
returns-clause-fixed c = c.put_empty.ensures.refusals.fixed

pub returns-clause-full : goal.returns-clause-full
returns-clause-full c = c.put_empty.ensures.refusals.full

pub returns-clause-fresh : goal.returns-clause-fresh
returns-clause-fresh c = c.put_empty.ensures.refusals.fresh

pub returns-clause-memory : goal.returns-clause-memory
returns-clause-memory c = c.put_empty.ensures.refusals.memory
