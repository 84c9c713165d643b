use Rattle.std.proofs.Common.{◌≡◌, true, false, refl}
use Rattle.tc_verify.specs.Checkers.{view_of}
use Rattle.tc_verify.proofs.Kept.{are_rows, hedge_at, tree_at, hedge_room, hedge_stands, tree_stands, same_room, stays, same_listing}
use Rattle.tc_verify.proofs.Trials.{append_found, append_dead, append_left}
use Rattle.tc_verify.proofs.checker.Checker.append_is_listed.Goals as goal

pub append-requires-clause-rows : goal.append-requires-clause-rows
append-requires-clause-rows c = are_rows c.requires.checked

pub append-requires-clause-hedge : goal.append-requires-clause-hedge
append-requires-clause-hedge c = λ x a. (hedge_stands c.requires.checked c.args.hedge c.index-first.result.now (hedge_at c.args.self.now.hedges.items c.args.hedge c.index-first.result.now c.requires.row.0 c.index-first.ensures) x a).0

pub append-requires-clause-tree : goal.append-requires-clause-tree
append-requires-clause-tree c = λ x a. (tree_stands c.requires.checked c.args.tree c.index-next.result.now (tree_at c.args.self.now.trees.items c.args.tree c.index-next.result.now c.requires.row.1 c.index-next.ensures) x a).0

pub append-requires-clause-room : goal.append-requires-clause-room
append-requires-clause-room c = hedge_room c.requires.checked

pub returns-in-Ok-true-clause-stays : goal.returns-in-Ok-true-clause-stays
returns-in-Ok-true-clause-stays c = record {
  checked = stays c.requires.checked c.append.new.self c.append.ensures.same c.append.ensures.rows (c.append.ensures.fixed c.requires.checked.fixed) c.append.new.out c.args.self.now.new_tree c.append.ensures.room (same_room c.args.self.now.new_tree.room);
  same = same_listing c.requires.checked c.append.new.self c.append.ensures.same c.append.ensures.rows (c.append.ensures.fixed c.requires.checked.fixed) (view_of c.args.self.now) refl;
}

pub returns-in-Ok-false-clause-stays : goal.returns-in-Ok-false-clause-stays
returns-in-Ok-false-clause-stays c = record {
  checked = stays c.requires.checked c.append.new.self c.append.ensures.same c.append.ensures.rows (c.append.ensures.fixed c.requires.checked.fixed) c.append.new.out c.args.self.now.new_tree c.append.ensures.room (same_room c.args.self.now.new_tree.room);
  same = same_listing c.requires.checked c.append.new.self c.append.ensures.same c.append.ensures.rows (c.append.ensures.fixed c.requires.checked.fixed) (view_of c.args.self.now) refl;
}

pub returns-in-Err-clause-stays : goal.returns-in-Err-clause-stays
returns-in-Err-clause-stays c = record {
  checked = stays c.requires.checked c.append.new.self c.append.ensures.same c.append.ensures.rows (c.append.ensures.fixed c.requires.checked.fixed) c.append.new.out c.args.self.now.new_tree c.append.ensures.room (same_room c.args.self.now.new_tree.room);
  same = same_listing c.requires.checked c.append.new.self c.append.ensures.same c.append.ensures.rows (c.append.ensures.fixed c.requires.checked.fixed) (view_of c.args.self.now) refl;
}

pub returns-in-Ok-true-clause-exact : goal.returns-in-Ok-true-clause-exact
returns-in-Ok-true-clause-exact c =
    let yes : c.in-Ok-true.field-0 ≡ true = cc in
    append_found c.requires.checked (view_of c.args.self.now) refl c.append.new.self (c.append.ensures.fixed c.requires.checked.fixed) c.args.hedge c.args.tree c.index-first.result.now c.index-next.result.now (hedge_at c.args.self.now.hedges.items c.args.hedge c.index-first.result.now c.requires.row.0 c.index-first.ensures) (tree_at c.args.self.now.trees.items c.args.tree c.index-next.result.now c.requires.row.1 c.index-next.ensures) c.append.new.out (c.in-Ok-true.ensures.row yes) (c.in-Ok-true.ensures.live yes) c.has.result c.numbers.result.now c.numbers.ensures c.has.ensures

pub returns-in-Ok-false-clause-exact : goal.returns-in-Ok-false-clause-exact
returns-in-Ok-false-clause-exact c =
    let no : c.in-Ok-false.field-0 ≡ false = cc in
    append_dead c.requires.checked (view_of c.args.self.now) refl c.append.new.self (c.append.ensures.fixed c.requires.checked.fixed) c.args.hedge c.args.tree c.index-first.result.now c.index-next.result.now (hedge_at c.args.self.now.hedges.items c.args.hedge c.index-first.result.now c.requires.row.0 c.index-first.ensures) (tree_at c.args.self.now.trees.items c.args.tree c.index-next.result.now c.requires.row.1 c.index-next.ensures) (c.in-Ok-false.ensures.dead no).1

pub returns-in-Err-clause-exact : goal.returns-in-Err-clause-exact
returns-in-Err-clause-exact c = append_left c.requires.checked (view_of c.args.self.now) refl c.append.new.self (c.append.ensures.fixed c.requires.checked.fixed) c.args.hedge c.args.tree c.index-first.result.now c.index-next.result.now (hedge_at c.args.self.now.hedges.items c.args.hedge c.index-first.result.now c.requires.row.0 c.index-first.ensures) (tree_at c.args.self.now.trees.items c.args.tree c.index-next.result.now c.requires.row.1 c.index-next.ensures) c.in-Err.ensures.err (λ x u a made. (c.in-Err.ensures.partly x u a made).1)
