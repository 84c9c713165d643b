use Rattle.std.proofs.Common.{◌≡◌, ◌<◌, length, All, subst, sym, refl}
use Rattle.std.proofs.lemmas.Result.{IfOk-weaker}
use Rattle.tc_beh.specs.Rooms.{tree_layout}
use Rattle.tc_close.specs.HeldRows.{state_of}
use Rattle.tc_close.specs.Lines.{tree_held}
use Rattle.tc_close.specs.RowState.{RowState}
use Rattle.tc_close.proofs.Holding.{tree_fits, tree_stands, taken, tested, same_room}
use Rattle.tc_close.proofs.HeldLines.{tree_line_is, line_outs_low}
use Rattle.tc_close.proofs.held.HeldRows.tree_line.Goals as goal

pub load-requires : goal.load-requires
load-requires g c =
    let low : c.args.place < length c.self.inside.trees = subst (λ s. c.args.place < length s.trees) (sym c.self.view_is) c.requires in
    tree_fits c.self.invariant.0 c.args.place c.get.result.now c.get.ensures low

pub invariant_of-self : goal.invariant_of-self
invariant_of-self g c =
    (tested c.self.invariant.0 c.self.inside.rows (record { machine = refl; is_fixed = refl }) (λ x is. is) refl (record { hedge = c.self.inside.rooms.hedge; tree = c.load.new.self; new_hedge = c.self.inside.rooms.new_hedge; new_tree = c.self.inside.rooms.new_tree }) (record { hedge = same_room c.self.inside.rooms.hedge.room; tree = c.load.ensures.beside; new_hedge = same_room c.self.inside.rooms.new_hedge.room; new_tree = same_room c.self.inside.rooms.new_tree.room }), c.self.invariant.1)

pub returns-clause-line : goal.returns-clause-line
returns-clause-line g c =
    let low : c.args.place < length c.self.inside.trees = subst (λ s. c.args.place < length s.trees) (sym c.self.view_is) c.requires in
    let room = c.load.new.self in
    let items : room.room.numbers.items ≡ _ = taken c.self.inside.trees c.args.place c.get.result.now room.room.numbers.items c.get.ensures c.load.ensures.numbers in
    IfOk-weaker c.line.result _ _ (λ l line x o.
    let stands = tree_stands c.self.invariant.0 c.args.place room low c.load.ensures.beside items x (c.self.invariant.0.stand x (c.self.invariant.0.over x o)) in
    subst (λ (s : RowState). l ≡ tree_held x s c.args.place) c.self.view_is (tree_line_is x (state_of c.self.inside.rows c.self.inside.hedges c.self.inside.trees c.self.inside.is_whole) c.args.place room.room stands.parted items l line)) c.line.ensures

pub returns-clause-outs : goal.returns-clause-outs
returns-clause-outs g c =
    let low : c.args.place < length c.self.inside.trees = subst (λ s. c.args.place < length s.trees) (sym c.self.view_is) c.requires in
    let room = c.load.new.self in
    let items : room.room.numbers.items ≡ _ = taken c.self.inside.trees c.args.place c.get.result.now room.room.numbers.items c.get.ensures c.load.ensures.numbers in
    let (x, o) = c.self.invariant.0.some in
    let stands = tree_stands c.self.invariant.0 c.args.place room low c.load.ensures.beside items x (c.self.invariant.0.stand x (c.self.invariant.0.over x o)) in
    IfOk-weaker c.line.result _ _ (λ l line. subst (λ (s : RowState). All (λ n. n < length s.outputs.matrices) l.outs) c.self.view_is (line_outs_low (tree_layout x) room.room c.self.inside.rows.outputs.matrices l.outs stands.parted stands.numbers line.outs)) c.line.ensures
