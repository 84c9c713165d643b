use Rattle.std.proofs.Common.{refl}
use Rattle.tc_verify.specs.Checkers.{view_of}
use Rattle.tc_verify.proofs.Kept.{are_rows, tree_at, tree_stands, same_room, stays, same_listing}
use Rattle.tc_verify.proofs.Trials.{root_passes, root_free}
use Rattle.tc_verify.proofs.checker.Checker.root_is_good.Goals as goal

pub admitted-requires-clause-rows : goal.admitted-requires-clause-rows
admitted-requires-clause-rows c = are_rows c.requires.checked

pub admitted-requires-clause-tree : goal.admitted-requires-clause-tree
admitted-requires-clause-tree c = λ x a. (tree_stands c.requires.checked c.args.tree c.index-root.result.now (tree_at c.args.self.now.trees.items c.args.tree c.index-root.result.now c.requires.tree c.index-root.ensures) x a).0

pub root_ok-requires-clause-rows : goal.root_ok-requires-clause-rows
root_ok-requires-clause-rows c = are_rows c.requires.checked

pub root_ok-requires-clause-tree : goal.root_ok-requires-clause-tree
root_ok-requires-clause-tree c = λ x a. (tree_stands c.requires.checked c.args.tree c.index-root.result.now (tree_at c.args.self.now.trees.items c.args.tree c.index-root.result.now c.requires.tree c.index-root.ensures) x a).0

pub returns-else-not-admitted-clause-stays : goal.returns-else-not-admitted-clause-stays
returns-else-not-admitted-clause-stays c = record {
  checked = stays c.requires.checked c.root_ok.new.self c.root_ok.ensures.same c.root_ok.ensures.rows c.root_ok.ensures.outputs c.args.self.now.new_hedge c.args.self.now.new_tree (same_room c.args.self.now.new_hedge.room) (same_room c.args.self.now.new_tree.room);
  same = same_listing c.requires.checked c.root_ok.new.self c.root_ok.ensures.same c.root_ok.ensures.rows c.root_ok.ensures.outputs (view_of c.args.self.now) refl;
}

pub returns-else-not-admitted-clause-exact : goal.returns-else-not-admitted-clause-exact
returns-else-not-admitted-clause-exact c = root_passes c.requires.checked (view_of c.args.self.now) refl c.args.tree c.index-root.result.now (tree_at c.args.self.now.trees.items c.args.tree c.index-root.result.now c.requires.tree c.index-root.ensures) c.admitted.result c.root_ok.result c.admitted.ensures c.if-not-admitted.false c.root_ok.ensures.passing

pub returns-then-not-admitted-clause-exact : goal.returns-then-not-admitted-clause-exact
returns-then-not-admitted-clause-exact c = root_free c.requires.checked (view_of c.args.self.now) refl c.args.tree c.index-root.result.now (tree_at c.args.self.now.trees.items c.args.tree c.index-root.result.now c.requires.tree c.index-root.ensures) c.admitted.result c.admitted.ensures c.if-not-admitted.true
