use Rattle.std.proofs.Common.{◌≡◌, ◌+◌, ◌∷◌, ◌++◌, [], refl, ap, ◌∙◌, sym, subst, arith, length, reverse, Some, codes}
use Rattle.std.proofs.lemmas.Option.{slice_get_read}
use Rattle.tc_model.specs.Trees.{none, element, beside, node_count}
use Rattle.tc_model.specs.Chains.{an_element, a_text}
use Rattle.tc_model.specs.Views.{trees}
use Rattle.tc_model.specs.Symbols.{fresh_name}
use Rattle.tc_model.proofs.Views.{before_text}
use Rattle.tc_model.proofs.TotalJoin.{beside_none}
use Rattle.tc_settle.specs.declared.closed.MadeHedge.TheVariants as hedge
use Rattle.tc_settle.specs.declared.closed.MadeTree.TheVariants as tree
use Rattle.tc_settle.specs.Closed.{hedge_cost, tree_cost}
use Rattle.tc_settle.specs.Made.{IsMadeHedge, made_none, made_text, made_wrap}
use Rattle.tc_settle.proofs.Derived.{capped_low}
use Rattle.tc_settle.proofs.Grown.{hedge_part, tree_part, made_more, count_more, tree_costs_some}
use Rattle.tc_settle.proofs.building.+trees.Goals as goal

pub build_tree-build_kids-requires : goal.build_tree-build_kids-requires
build_tree-build_kids-requires g t c =
    let s = g.R.NumberedRows.held c.args.rows.now in
    let d = c.args.closed.now in
    let kept = c.requires.rows.0.kept in
    let e = slice_get_read d.trees.items (length d.trees.items) c.args.tree c.index.result.now refl (omega (arith, c.requires.near.0, kept.made_tree_count)) c.index.ensures ∙ ap Some c.in-Wrap.is in
    let part = tree_part s d c.args.tree (tree.Wrap c.in-Wrap.symbol c.in-Wrap.hedge) kept c.requires.near.0 e in
    let cost : hedge_cost d c.in-Wrap.hedge + 1 ≡ tree_cost d c.args.tree = capped_low (hedge_cost d c.in-Wrap.hedge + 1) (tree_cost d c.args.tree) part.3 c.requires.near.1 in
    λ κs l. (omega (arith, c.decreases, cost), (l, (c.requires.rows, (part.1, omega (arith, cost, c.requires.near.1)))))

pub build_tree-build_element-requires : goal.build_tree-build_element-requires
build_tree-build_element-requires g t c =
    let s = g.R.NumberedRows.held c.args.rows.now in
    let d = c.args.closed.now in
    let kept = c.requires.rows.0.kept in
    let e = slice_get_read d.trees.items (length d.trees.items) c.args.tree c.index.result.now refl (omega (arith, c.requires.near.0, kept.made_tree_count)) c.index.ensures ∙ ap Some c.in-Wrap.is in
    let part = tree_part s d c.args.tree (tree.Wrap c.in-Wrap.symbol c.in-Wrap.hedge) kept c.requires.near.0 e in
    omega (arith, part.0, c.requires.rows.1)

pub build_tree-returns-in-Text : goal.build_tree-returns-in-Text
build_tree-returns-in-Text g t c =
    let s = g.R.NumberedRows.held c.args.rows.now in
    let d = c.args.closed.now in
    let kept = c.requires.rows.0.kept in
    let e = slice_get_read d.trees.items (length d.trees.items) c.args.tree c.index.result.now refl (omega (arith, c.requires.near.0, kept.made_tree_count)) c.index.ensures ∙ ap Some c.in-Text.is in
    let part = tree_part s d c.args.tree tree.Text kept c.requires.near.0 e in
    (a_text (codes "t"), before_text _ none, made_text part.0, ap node_count (before_text _ none) ∙ sym part.1)

pub build_tree-returns-in_ok-node-in-Wrap : goal.build_tree-returns-in_ok-node-in-Wrap
build_tree-returns-in_ok-node-in-Wrap g t c =
    let s = g.R.NumberedRows.held c.args.rows.now in
    let d = c.args.closed.now in
    let kept = c.requires.rows.0.kept in
    let e = slice_get_read d.trees.items (length d.trees.items) c.args.tree c.index.result.now refl (omega (arith, c.requires.near.0, kept.made_tree_count)) c.index.ensures ∙ ap Some c.in-Wrap.is in
    let part = tree_part s d c.args.tree (tree.Wrap c.in-Wrap.symbol c.in-Wrap.hedge) kept c.requires.near.0 e in
    let cost : hedge_cost d c.in-Wrap.hedge + 1 ≡ tree_cost d c.args.tree = capped_low (hedge_cost d c.in-Wrap.hedge + 1) (tree_cost d c.args.tree) part.3 c.requires.near.1 in
    let kids = c.in_ok-kids-in-Wrap.ensures in
    let is = c.in_ok-node-in-Wrap.ensures in
    let below = trees c.in_ok-kids-in-Wrap.kids.now in
    let name = fresh_name c.args.alphabet.now c.in-Wrap.symbol in
    let count : node_count (element name below none) ≡ tree_cost d c.args.tree = omega (arith, kids.1, cost) in
    (an_element name below, is, made_wrap part.0 kids.0 part.2, ap node_count is ∙ count)

pub push_kids-loop-front-init : goal.push_kids-loop-front-init
push_kids-loop-front-init g t c =
    let s = g.R.NumberedRows.held c.args.rows.now in
    let d = c.args.closed.now in
    record {
      low = c.requires.near.0;
      count = ap (λ l. hedge_cost d c.args.hedge + node_count (trees (reverse l))) c.requires.none ∙ omega arith;
      made = λ f m. subst (λ w. IsMadeHedge s c.args.alphabet.now w c.args.hedge) (sym (ap (λ l. beside f (trees (reverse l))) c.requires.none ∙ beside_none f)) m;
    }

pub push_kids-build_tree-requires : goal.push_kids-build_tree-requires
push_kids-build_tree-requires g t c =
    let s = g.R.NumberedRows.held c.args.rows.now in
    let d = c.args.closed.now in
    let v = c.loop-front.invariant in
    let part = hedge_part s d c.loop-front.rest (hedge.Append c.in-Some.front c.in-Some.tree) c.requires.rows.0.kept v.low c.in-Some.ensures in
    let sum : hedge_cost d c.in-Some.front + tree_cost d c.in-Some.tree ≡ hedge_cost d c.loop-front.rest = capped_low (hedge_cost d c.in-Some.front + tree_cost d c.in-Some.tree) (hedge_cost d c.loop-front.rest) part.3 (omega (arith, v.count, c.requires.near.1)) in
    λ κs l. (omega (arith, c.decreases, sum, v.count), (l, (c.requires.rows, (part.1, omega (arith, sum, v.count, c.requires.near.1)))))

pub push_kids-loop-front-smaller : goal.push_kids-loop-front-smaller
push_kids-loop-front-smaller g t c =
    let s = g.R.NumberedRows.held c.args.rows.now in
    let d = c.args.closed.now in
    let v = c.loop-front.invariant in
    let part = hedge_part s d c.loop-front.rest (hedge.Append c.in-Some.front c.in-Some.tree) c.requires.rows.0.kept v.low c.in-Some.ensures in
    let sum : hedge_cost d c.in-Some.front + tree_cost d c.in-Some.tree ≡ hedge_cost d c.loop-front.rest = capped_low (hedge_cost d c.in-Some.front + tree_cost d c.in-Some.tree) (hedge_cost d c.loop-front.rest) part.3 (omega (arith, v.count, c.requires.near.1)) in
    omega (arith, sum, tree_costs_some s d c.in-Some.tree c.requires.rows.0.kept part.1)

pub push_kids-loop-front-preserved : goal.push_kids-loop-front-preserved
push_kids-loop-front-preserved g t c =
    let s = g.R.NumberedRows.held c.args.rows.now in
    let d = c.args.closed.now in
    let v = c.loop-front.invariant in
    let part = hedge_part s d c.loop-front.rest (hedge.Append c.in-Some.front c.in-Some.tree) c.requires.rows.0.kept v.low c.in-Some.ensures in
    let sum : hedge_cost d c.in-Some.front + tree_cost d c.in-Some.tree ≡ hedge_cost d c.loop-front.rest = capped_low (hedge_cost d c.in-Some.front + tree_cost d c.in-Some.tree) (hedge_cost d c.loop-front.rest) part.3 (omega (arith, v.count, c.requires.near.1)) in
    let built = c.in_ok-kid.ensures in
    let more = count_more c.loop-front.kids.items c.in_ok-kid.kid in
    let count : hedge_cost d c.in-Some.front + node_count (trees (reverse (c.loop-front.kids.items ++ c.in_ok-kid.kid ∷ []))) ≡ hedge_cost d c.args.hedge = omega (arith, more, built.3, sum, v.count) in
    let pushed = c.in_ok-push_kid.ensures in
    record {
      low = part.0;
      count = ap (λ l. hedge_cost d c.in-Some.front + node_count (trees (reverse l))) pushed ∙ count;
      made = λ f m. subst (λ l. IsMadeHedge s c.args.alphabet.now (beside f (trees (reverse l))) c.args.hedge) (sym pushed)
          (made_more s c.args.alphabet.now c.loop-front.kids.items c.in_ok-kid.kid built.0 c.args.hedge c.loop-front.rest c.in-Some.front c.in-Some.tree built.1 built.2 part.2 v.made f m);
    }

pub push_kids-returns : goal.push_kids-returns
push_kids-returns g t c =
    let s = g.R.NumberedRows.held c.args.rows.now in
    let d = c.args.closed.now in
    let v = c.loop-front.invariant in
    let part = hedge_part s d c.loop-front.rest hedge.None c.requires.rows.0.kept v.low c.in_default.ensures in
    (v.made none (made_none part.0), omega (arith, v.count, part.1))
