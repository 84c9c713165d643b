use Rattle.std.proofs.Common.{◌≡◌, inl, inr, arith}
use Rattle.std.proofs.lemmas.List.{get_or_read}
use Rattle.tc_settle.specs.Closed.{tree_cost}
use Rattle.tc_settle.proofs.building.build.Goals as goal

pub returns-then-index-gt-MOST_SHOWN_NODES-clause-many : goal.returns-then-index-gt-MOST_SHOWN_NODES-clause-many
returns-then-index-gt-MOST_SHOWN_NODES-clause-many g c = λ _.
    let d = c.args.closed.now in
    let x : c.index.result.now ≡ tree_cost d c.args.tree = get_or_read d.tree_costs.items _ _ (omega (arith, c.requires.tree, c.requires.closure.kept.tree_count)) c.index.ensures 0 in
    let (n, from, capped) = c.requires.closure.kept.trees_derive c.args.tree c.requires.tree in
    elim capped [ inl near ↦ absurd (omega (arith, near, x, c.if-index-gt-MOST_SHOWN_NODES.true)) | inr far ↦ far.1 ]

pub returns-then-index-gt-MOST_SHOWN_NODES-clause-made : goal.returns-then-index-gt-MOST_SHOWN_NODES-clause-made
returns-then-index-gt-MOST_SHOWN_NODES-clause-made g c = tt

pub returns-then-index-gt-MOST_SHOWN_NODES-clause-near : goal.returns-then-index-gt-MOST_SHOWN_NODES-clause-near
returns-then-index-gt-MOST_SHOWN_NODES-clause-near g c = tt

pub index-requires : goal.index-requires
index-requires g c = omega (arith, c.requires.tree, c.requires.closure.kept.tree_count)

pub build_tree-requires-clause-near : goal.build_tree-requires-clause-near
build_tree-requires-clause-near g c =
    let d = c.args.closed.now in
    let x : c.index.result.now ≡ tree_cost d c.args.tree = get_or_read d.tree_costs.items _ _ (omega (arith, c.requires.tree, c.requires.closure.kept.tree_count)) c.index.ensures 0 in
    (c.requires.tree, omega (arith, x, c.if-index-gt-MOST_SHOWN_NODES.false))

pub build_tree-requires-clause-rows : goal.build_tree-requires-clause-rows
build_tree-requires-clause-rows g c = (c.requires.closure, c.requires.symbols)

pub returns-clause-made : goal.returns-clause-made
returns-clause-made g c = c.in_ok-build_tree.ensures

pub returns-clause-near : goal.returns-clause-near
returns-clause-near g c =
    let d = c.args.closed.now in
    let x : c.index.result.now ≡ tree_cost d c.args.tree = get_or_read d.tree_costs.items _ _ (omega (arith, c.requires.tree, c.requires.closure.kept.tree_count)) c.index.ensures 0 in
    omega (arith, x, c.if-index-gt-MOST_SHOWN_NODES.false)
