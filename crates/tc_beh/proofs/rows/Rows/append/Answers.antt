use Rattle.std.proofs.Common.{◌≡◌, ◌<◌, ◌∙◌, length, sym, subst, refl, arith, true, false}
use Rattle.tc_model.specs.States.{input}
use Rattle.tc_auto.specs.Stands.{Stands}
use Rattle.tc_auto.specs.declared.auto.Auto.{Auto}
use Rattle.tc_hedge.proofs.Bounds.{patterns_of}
use Rattle.tc_beh.specs.Held.{Grows}
use Rattle.tc_beh.specs.Rooms.{output_at}
use Rattle.tc_beh.specs.Bundles.{AreStepsOf}
use Rattle.tc_beh.proofs.Nodes.{work_set, work_steps}
use Rattle.tc_beh.proofs.Holding.{extends_self, on_err}
use Rattle.tc_beh.proofs.Appends.{is_live, isnt_live, appended, refused}
use Rattle.tc_beh.proofs.WrapRows.{beside_then, rows_after}
use Rattle.tc_beh.proofs.Refusing.{not_true, not_false, no_error, same_error}
use Rattle.tc_beh.proofs.Steps.{no_value}
use Rattle.tc_beh.proofs.rows.Rows.append.Goals as goal

pub put_kind-requires-clause-patterns : goal.put_kind-requires-clause-patterns
put_kind-requires-clause-patterns c =
    let (x, is) = c.requires.rows in
    (c.requires.tree x is).parted.flags ∙ sym (patterns_of input x.input c.auto.result.now (subst (λ (a : Auto). Stands input x.input a) (sym c.auto.ensures) is.machine.parts.contents.auto))

pub put_kind-requires-clause-steps : goal.put_kind-requires-clause-steps
put_kind-requires-clause-steps c =
    let (x, is) = c.requires.rows in
    subst (λ (a : Auto). AreStepsOf a c.args.self.now.work.bundles) (sym c.auto.ensures) is.work.bundles

pub put_append-requires-clause-first : goal.put_append-requires-clause-first
put_append-requires-clause-first c = λ i low.
    let (x, is) = c.requires.rows in
    let hedge = c.requires.hedge x is in
    let same = c.put_kind.ensures.beside.entries in
    let out = (c.requires.room x is).entries in
    subst (λ f. output_at f c.args.h.now.room.numbers.items i < length c.args.self.now.outputs.matrices) (sym hedge.parted.flags) (hedge.numbers.outs i (omega (arith, low, same, out)))

pub put_append-requires-clause-second : goal.put_append-requires-clause-second
put_append-requires-clause-second c = λ i low.
    let (x, is) = c.requires.rows in
    let tree = c.requires.tree x is in
    let same = c.put_kind.ensures.beside.entries in
    let out = (c.requires.room x is).entries in
    subst (λ f. output_at f c.args.t.now.room.numbers.items i < length c.args.self.now.outputs.matrices) (sym tree.parted.flags) (tree.numbers.outs i (omega (arith, low, same, out)))

pub put_append-requires-clause-hedge : goal.put_append-requires-clause-hedge
put_append-requires-clause-hedge c =
    let (x, is) = c.requires.rows in
    (c.requires.hedge x is).parted.entries ∙ sym (c.put_kind.ensures.beside.entries ∙ (c.requires.room x is).entries)

pub put_append-requires-clause-tree : goal.put_append-requires-clause-tree
put_append-requires-clause-tree c =
    let (x, is) = c.requires.rows in
    (c.requires.tree x is).parted.entries ∙ sym (c.put_kind.ensures.beside.entries ∙ (c.requires.room x is).entries)

pub put_append-requires-clause-looks : goal.put_append-requires-clause-looks
put_append-requires-clause-looks c =
    let (x, is) = c.requires.rows in
    let hedge = (c.requires.hedge x is).parted in
    let out = c.requires.room x is in
    let same = c.put_kind.ensures.beside in
    omega (arith, hedge.flags, hedge.count, out.flags, out.count, same.flags, same.count)

pub put_append-requires-clause-tree_looks : goal.put_append-requires-clause-tree_looks
put_append-requires-clause-tree_looks c =
    let (x, is) = c.requires.rows in
    let hedge = (c.requires.hedge x is).parted in
    let tree = (c.requires.tree x is).parted in
    omega (arith, hedge.flags, hedge.count, tree.flags, tree.count)

pub returns-then-not-put_kind-clause-dead : goal.returns-then-not-put_kind-clause-dead
returns-then-not-put_kind-clause-dead c = λ e. (
  refl,
  λ x is.
      let hedge = c.requires.hedge x is in
      let tree = c.requires.tree x is in
      let out = c.requires.room x is in
      let put = c.put_kind.ensures in
      isnt_live x c.args.h.now.room.numbers.items c.args.t.now.room.numbers.items c.args.h.now.room.flags c.args.t.now.room.flags c.put_kind.new.out.flags hedge.parted.flags tree.parted.flags (put.beside.flags ∙ out.flags)
      c.auto.result.now (subst (λ (a : Auto). Stands input x.input a) (sym c.auto.ensures) is.machine.parts.contents.auto) c.args.self.now.outputs.matrices hedge.numbers c.put_kind.new.out.numbers.items
      (put.beside.count ∙ out.count) put.flags (λ some. let f : false ≡ true = sym c.if-not-put_kind.true ∙ put.live.1 some in absurd (cc)),
)

pub returns-clause-live : goal.returns-clause-live
returns-clause-live c = λ e x is.
    let hedge = c.requires.hedge x is in
    let tree = c.requires.tree x is in
    let out = c.requires.room x is in
    let put = c.put_kind.ensures in
    let (apart, some) = put.live.0 c.if-not-put_kind.false in
    is_live x c.args.h.now.room.numbers.items c.args.t.now.room.numbers.items c.args.h.now.room.flags c.args.t.now.room.flags c.put_kind.new.out.flags hedge.parted.flags tree.parted.flags (put.beside.flags ∙ out.flags)
    c.auto.result.now (subst (λ (a : Auto). Stands input x.input a) (sym c.auto.ensures) is.machine.parts.contents.auto) c.args.self.now.outputs.matrices hedge.numbers c.put_kind.new.out.numbers.items
    (put.beside.count ∙ out.count) put.flags apart some

pub returns-clause-row : goal.returns-clause-row
returns-clause-row c = λ e x is.
    let hedge = c.requires.hedge x is in
    let tree = c.requires.tree x is in
    let out = c.requires.room x is in
    let kind = c.put_kind.ensures in
    let put = c.in_ok-put_append.ensures in
    let (apart, some) = kind.live.0 c.if-not-put_kind.false in
    let (room, row) =
    appended x c.args.h.now.room.numbers.items c.args.t.now.room.numbers.items c.args.h.now.room.flags c.args.t.now.room.flags c.put_kind.new.out.flags hedge.parted.flags tree.parted.flags (kind.beside.flags ∙ out.flags)
    c.auto.result.now (subst (λ (a : Auto). Stands input x.input a) (sym c.auto.ensures) is.machine.parts.contents.auto) c.args.self.now.outputs c.put_append.new.outputs put.held put.matrices is.size
    c.put_kind.new.out.entries (kind.beside.entries ∙ out.entries) hedge.numbers tree.numbers c.put_kind.new.out.numbers.items c.put_append.new.out.numbers.items (kind.beside.count ∙ out.count) put.beside.count kind.flags apart
    put.flags put.numbers put.grows.low
    in (
      record {
        parted = record { flags = put.beside.flags ∙ (kind.beside.flags ∙ out.flags); entries = put.beside.entries ∙ (kind.beside.entries ∙ out.entries); count = put.beside.count ∙ (kind.beside.count ∙ out.count) };
        numbers = room;
      },
      row,
    )

pub returns-in_err-put_append-clause-err : goal.returns-in_err-put_append-clause-err
returns-in_err-put_append-clause-err c =
    on_err c.from_residual.result _
    (λ x is.
    let hedge = c.requires.hedge x is in
    let tree = c.requires.tree x is in
    let out = c.requires.room x is in
    let put = c.put_kind.ensures in
    let (apart, some) = put.live.0 c.if-not-put_kind.false in
    is_live x c.args.h.now.room.numbers.items c.args.t.now.room.numbers.items c.args.h.now.room.flags c.args.t.now.room.flags c.put_kind.new.out.flags hedge.parted.flags tree.parted.flags (put.beside.flags ∙ out.flags)
    c.auto.result.now (subst (λ (a : Auto). Stands input x.input a) (sym c.auto.ensures) is.machine.parts.contents.auto) c.args.self.now.outputs.matrices hedge.numbers c.put_kind.new.out.numbers.items
    (put.beside.count ∙ out.count) put.flags apart some)

pub returns-in_err-put_append-clause-partly : goal.returns-in_err-put_append-clause-partly
returns-in_err-put_append-clause-partly c =
    on_err c.from_residual.result _
    (λ x r is row.
    let hedge = c.requires.hedge x is in
    let tree = c.requires.tree x is in
    let out = c.requires.room x is in
    let kind = c.put_kind.ensures in
    let put = c.in_err-put_append.ensures in
    refused x c.args.h.now.room.numbers.items c.args.t.now.room.numbers.items c.args.h.now.room.flags c.args.t.now.room.flags c.put_kind.new.out.flags hedge.parted.flags tree.parted.flags (kind.beside.flags ∙ out.flags)
    c.auto.result.now (subst (λ (a : Auto). Stands input x.input a) (sym c.auto.ensures) is.machine.parts.contents.auto) c.args.self.now.outputs c.put_append.new.outputs put.held put.matrices is.size
    c.put_kind.new.out.entries (kind.beside.entries ∙ out.entries) hedge.numbers tree.numbers r row put.partly put.err)

pub returns-clause-rows : goal.returns-clause-rows
returns-clause-rows c = λ x is.
    let w = c.args.self.now.work in
    let steps = subst (λ (a : Auto). AreStepsOf a c.put_kind.new.bundles) c.auto.ensures c.put_kind.ensures.steps in
    rows_after x c.args.self.now is c.put_append.new.outputs c.put_append.ensures.held (record w { set = c.put_append.new.set; bundles = c.put_kind.new.bundles })
    (work_set x c.args.self.now.machine.now c.args.self.now.outputs (record w { bundles = c.put_kind.new.bundles }) (work_steps x c.args.self.now.machine.now c.args.self.now.outputs w is.work c.put_kind.new.bundles steps)
    c.put_append.new.outputs c.put_append.ensures.held c.put_append.new.set c.put_append.ensures.set) _ refl refl refl

pub returns-in_err-put_append-clause-rows : goal.returns-in_err-put_append-clause-rows
returns-in_err-put_append-clause-rows c = λ x is.
    let w = c.args.self.now.work in
    let steps = subst (λ (a : Auto). AreStepsOf a c.put_kind.new.bundles) c.auto.ensures c.put_kind.ensures.steps in
    rows_after x c.args.self.now is c.put_append.new.outputs c.put_append.ensures.held (record w { set = c.put_append.new.set; bundles = c.put_kind.new.bundles })
    (work_set x c.args.self.now.machine.now c.args.self.now.outputs (record w { bundles = c.put_kind.new.bundles }) (work_steps x c.args.self.now.machine.now c.args.self.now.outputs w is.work c.put_kind.new.bundles steps)
    c.put_append.new.outputs c.put_append.ensures.held c.put_append.new.set c.put_append.ensures.set) _ refl refl refl

pub returns-clause-room : goal.returns-clause-room
returns-clause-room c = beside_then c.args.out.now.room c.put_kind.new.out c.put_append.new.out c.put_kind.ensures.beside c.put_append.ensures.beside

pub returns-in_err-put_append-clause-room : goal.returns-in_err-put_append-clause-room
returns-in_err-put_append-clause-room c = beside_then c.args.out.now.room c.put_kind.new.out c.put_append.new.out c.put_kind.ensures.beside c.put_append.ensures.beside

pub returns-clause-grows : goal.returns-clause-grows
returns-clause-grows c = λ e.
    let old = c.args.self.now.outputs in
    let new = c.put_append.new.outputs in
    let us = c.put_append.new.out.numbers.items in
    let beside = c.put_append.ensures.beside in
    subst (λ n. Grows old new (output_at c.put_append.new.out.flags us) n) (sym beside.entries) (subst (λ f. Grows old new (output_at f us) c.put_kind.new.out.entries) (sym beside.flags) c.in_ok-put_append.ensures.grows)

pub returns-in_err-put_append-clause-dead : goal.returns-in_err-put_append-clause-dead
returns-in_err-put_append-clause-dead c = no_value c.from_residual.result _ _ c.from_residual.ensures.1

pub returns-in_err-put_append-clause-live : goal.returns-in_err-put_append-clause-live
returns-in_err-put_append-clause-live c = no_value c.from_residual.result _ _ c.from_residual.ensures.1

pub returns-in_err-put_append-clause-row : goal.returns-in_err-put_append-clause-row
returns-in_err-put_append-clause-row c = no_value c.from_residual.result _ _ c.from_residual.ensures.1

pub returns-in_err-put_append-clause-grows : goal.returns-in_err-put_append-clause-grows
returns-in_err-put_append-clause-grows c = no_value c.from_residual.result _ _ c.from_residual.ensures.1

pub returns-then-not-put_kind-clause-same : goal.returns-then-not-put_kind-clause-same
returns-then-not-put_kind-clause-same c = record { machine = refl; is_fixed = refl }

pub returns-in_err-put_append-clause-same : goal.returns-in_err-put_append-clause-same
returns-in_err-put_append-clause-same c = record { machine = refl; is_fixed = refl }

pub returns-clause-same : goal.returns-clause-same
returns-clause-same c = record { machine = refl; is_fixed = refl }

pub returns-then-not-put_kind-clause-held : goal.returns-then-not-put_kind-clause-held
returns-then-not-put_kind-clause-held c = extends_self c.args.self.now.outputs

pub returns-in_err-put_append-clause-held : goal.returns-in_err-put_append-clause-held
returns-in_err-put_append-clause-held c = c.put_append.ensures.held

pub returns-clause-held : goal.returns-clause-held
returns-clause-held c = c.put_append.ensures.held

pub returns-then-not-put_kind-clause-rows : goal.returns-then-not-put_kind-clause-rows
returns-then-not-put_kind-clause-rows c = λ x is.
    let w = c.args.self.now.work in
    let held = c.args.self.now.outputs in
    let steps = subst (λ (a : Auto). AreStepsOf a c.put_kind.new.bundles) c.auto.ensures c.put_kind.ensures.steps in
    rows_after x c.args.self.now is held (extends_self held) (record w { bundles = c.put_kind.new.bundles }) (work_steps x c.args.self.now.machine.now held w is.work c.put_kind.new.bundles steps) _ refl refl refl

pub returns-then-not-put_kind-clause-fixed : goal.returns-then-not-put_kind-clause-fixed
returns-then-not-put_kind-clause-fixed c = λ e. refl

pub returns-in_err-put_append-clause-fixed : goal.returns-in_err-put_append-clause-fixed
returns-in_err-put_append-clause-fixed c = c.put_append.ensures.refusals.fixed

pub returns-clause-fixed : goal.returns-clause-fixed
returns-clause-fixed c = c.put_append.ensures.refusals.fixed

pub returns-then-not-put_kind-clause-full : goal.returns-then-not-put_kind-clause-full
returns-then-not-put_kind-clause-full c = λ e. no_error _ _ e

pub returns-clause-full : goal.returns-clause-full
returns-clause-full c = λ e. no_error _ _ e

pub returns-in_err-put_append-clause-full : goal.returns-in_err-put_append-clause-full
returns-in_err-put_append-clause-full c = λ e. c.put_append.ensures.refusals.full (same_error c.from_residual.result c.put_append.result _ _ c.from_residual.ensures.1 c.in_err-put_append.was e)

pub returns-then-not-put_kind-clause-fresh : goal.returns-then-not-put_kind-clause-fresh
returns-then-not-put_kind-clause-fresh c = λ e. no_error _ _ e

pub returns-clause-fresh : goal.returns-clause-fresh
returns-clause-fresh c = λ e. no_error _ _ e

pub returns-in_err-put_append-clause-fresh : goal.returns-in_err-put_append-clause-fresh
returns-in_err-put_append-clause-fresh c = λ e. c.put_append.ensures.refusals.fresh (same_error c.from_residual.result c.put_append.result _ _ c.from_residual.ensures.1 c.in_err-put_append.was e)

pub returns-then-not-put_kind-clause-memory : goal.returns-then-not-put_kind-clause-memory
returns-then-not-put_kind-clause-memory c = λ e. no_error _ _ e

pub returns-clause-memory : goal.returns-clause-memory
returns-clause-memory c = λ e. no_error _ _ e

pub returns-in_err-put_append-clause-memory : goal.returns-in_err-put_append-clause-memory
returns-in_err-put_append-clause-memory c = λ e. c.put_append.ensures.refusals.memory (same_error c.from_residual.result c.put_append.result _ _ c.from_residual.ensures.1 c.in_err-put_append.was e)

pub returns-then-not-put_kind-clause-live : goal.returns-then-not-put_kind-clause-live
returns-then-not-put_kind-clause-live c = λ e. not_true e

pub returns-then-not-put_kind-clause-row : goal.returns-then-not-put_kind-clause-row
returns-then-not-put_kind-clause-row c = λ e. not_true e

pub returns-then-not-put_kind-clause-grows : goal.returns-then-not-put_kind-clause-grows
returns-then-not-put_kind-clause-grows c = λ e. not_true e

pub returns-then-not-put_kind-clause-err : goal.returns-then-not-put_kind-clause-err
returns-then-not-put_kind-clause-err c = tt

pub returns-then-not-put_kind-clause-partly : goal.returns-then-not-put_kind-clause-partly
returns-then-not-put_kind-clause-partly c = tt

pub returns-clause-dead : goal.returns-clause-dead
returns-clause-dead c = λ e. not_false e

pub returns-clause-err : goal.returns-clause-err
returns-clause-err c = tt

pub returns-clause-partly : goal.returns-clause-partly
returns-clause-partly c = tt
