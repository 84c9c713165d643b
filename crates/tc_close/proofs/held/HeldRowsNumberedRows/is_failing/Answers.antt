use Rattle.std.proofs.Common.{◌<◌, length, subst, sym, refl}
use Rattle.tc_mat.specs.Held as mat
use Rattle.tc_close.specs.HeldRows.{AreKnown}
use Rattle.tc_close.proofs.Holding.{tree_fits, are_rows, tree_stands, taken, tested, same_rows, same_room, passes_or_fails, not_admitted}
use Rattle.tc_close.proofs.held.HeldRowsNumberedRows.is_failing.Goals as goal

pub load-requires : goal.load-requires
load-requires g c =
    let low : c.args.tree < length c.self.inside.trees = subst (λ s. c.args.tree < length s.trees) (sym c.self.view_is) c.requires in
    tree_fits c.self.invariant.0 c.args.tree c.get.result.now c.get.ensures low

pub admitted-requires-clause-rows : goal.admitted-requires-clause-rows
admitted-requires-clause-rows g c = are_rows c.self.invariant.0

pub admitted-requires-clause-tree : goal.admitted-requires-clause-tree
admitted-requires-clause-tree g c =
    let low : c.args.tree < length c.self.inside.trees = subst (λ s. c.args.tree < length s.trees) (sym c.self.view_is) c.requires in
    tree_stands c.self.invariant.0 c.args.tree c.load.new.self low c.load.ensures.beside (taken c.self.inside.trees c.args.tree c.get.result.now c.load.new.self.room.numbers.items c.get.ensures c.load.ensures.numbers)

pub root_ok-requires-clause-rows : goal.root_ok-requires-clause-rows
root_ok-requires-clause-rows g c = are_rows c.self.invariant.0

pub root_ok-requires-clause-tree : goal.root_ok-requires-clause-tree
root_ok-requires-clause-tree g c =
    let low : c.args.tree < length c.self.inside.trees = subst (λ s. c.args.tree < length s.trees) (sym c.self.view_is) c.requires in
    tree_stands c.self.invariant.0 c.args.tree c.load.new.self low c.load.ensures.beside (taken c.self.inside.trees c.args.tree c.get.result.now c.load.new.self.room.numbers.items c.get.ensures c.load.ensures.numbers)

pub invariant_of-self : goal.invariant_of-self
invariant_of-self g c =
    (tested c.self.invariant.0 c.root_ok.new.self c.root_ok.ensures.same c.root_ok.ensures.rows c.root_ok.ensures.outputs (record { hedge = c.self.inside.rooms.hedge; tree = c.load.new.self; new_hedge = c.self.inside.rooms.new_hedge; new_tree = c.self.inside.rooms.new_tree }) (record { hedge = same_room c.self.inside.rooms.hedge.room; tree = c.load.ensures.beside; new_hedge = same_room c.self.inside.rooms.new_hedge.room; new_tree = same_room c.self.inside.rooms.new_tree.room }), subst (λ (o : mat.Held). AreKnown g.K.Over.is_of o c.self.inside.hedges c.self.inside.trees c.self.inside.kinds c.self.inside.appends) (sym c.root_ok.ensures.outputs) c.self.invariant.1)

pub invariant_of-self-else-admitted : goal.invariant_of-self-else-admitted
invariant_of-self-else-admitted g c =
    (tested c.self.invariant.0 c.self.inside.rows (record { machine = refl; is_fixed = refl }) (λ x is. is) refl (record { hedge = c.self.inside.rooms.hedge; tree = c.load.new.self; new_hedge = c.self.inside.rooms.new_hedge; new_tree = c.self.inside.rooms.new_tree }) (record { hedge = same_room c.self.inside.rooms.hedge.room; tree = c.load.ensures.beside; new_hedge = same_room c.self.inside.rooms.new_hedge.room; new_tree = same_room c.self.inside.rooms.new_tree.room }), c.self.invariant.1)

pub returns-then-admitted-clause-fails : goal.returns-then-admitted-clause-fails
returns-then-admitted-clause-fails g c =
    passes_or_fails c.self.invariant.0 c.args.self.now c.self.view_is c.args.tree c.load.new.self.room.numbers.items (taken c.self.inside.trees c.args.tree c.get.result.now c.load.new.self.room.numbers.items c.get.ensures c.load.ensures.numbers) c.root_ok.result c.root_ok.ensures.passing c.admitted.result c.if-admitted.true c.admitted.ensures

pub returns-then-admitted-clause-same : goal.returns-then-admitted-clause-same
returns-then-admitted-clause-same g c = same_rows c.self.invariant.0 c.root_ok.new.self c.root_ok.ensures.same c.root_ok.ensures.rows c.root_ok.ensures.outputs c.args.self.now c.self.view_is

pub returns-else-admitted-clause-fails : goal.returns-else-admitted-clause-fails
returns-else-admitted-clause-fails g c =
    not_admitted c.self.invariant.0 c.args.self.now c.self.view_is c.args.tree c.load.new.self.room.numbers.items (taken c.self.inside.trees c.args.tree c.get.result.now c.load.new.self.room.numbers.items c.get.ensures c.load.ensures.numbers) c.admitted.result c.if-admitted.false c.admitted.ensures

pub returns-else-admitted-clause-same : goal.returns-else-admitted-clause-same
returns-else-admitted-clause-same g c = same_rows c.self.invariant.0 c.self.inside.rows (record { machine = refl; is_fixed = refl }) (λ x is. is) refl c.args.self.now c.self.view_is
