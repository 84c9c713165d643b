use Rattle.std.proofs.Common.{◌+◌, inl, inr, refl, ◌∙◌, sym, subst, arith}
use Rattle.tc_settle.specs.Settled.{IsAppendDone}
use Rattle.tc_settle.proofs.Kept.{below_or_last}
use Rattle.tc_settle.proofs.Going.{steps_nothing, steps_twice, append_done_stays, append_costs_stay}
use Rattle.tc_settle.proofs.runs.append_trees.Goals as goal

pub loop-tree-init : goal.loop-tree-init
loop-tree-init g c = record {
  steps = steps_nothing c.args.most c.args.cost (g.R.NumberedRows.held c.args.rows.now) c.args.closed.now c.requires.at;
  trees = refl;
  done = λ t from to. absurd (omega (arith, from, to));
}

pub try_append-requires-clause-at : goal.try_append-requires-clause-at
try_append-requires-clause-at g c = c.loop-tree.invariant.steps.at

pub try_append-requires-clause-costs : goal.try_append-requires-clause-costs
try_append-requires-clause-costs g c =
    append_costs_stay c.args.cost (g.R.NumberedRows.held c.args.rows.now) (g.R.NumberedRows.held c.loop-tree.rows) c.args.closed.now c.loop-tree.closed c.loop-tree.invariant.steps.goes c.args.hedge c.loop-tree.tree c.args.cost
    (c.requires.costs c.loop-tree.tree c.loop-tree.auto.tree c.loop-tree-test.true)

pub loop-tree-preserved : goal.loop-tree-preserved
loop-tree-preserved g c =
    let s = g.R.NumberedRows.held c.args.rows.now in
    let r = g.R.NumberedRows.held c.loop-tree.rows in
    let q = g.R.NumberedRows.held c.try_append.new.rows in
    let v = c.loop-tree.invariant in
    let e = c.in_ok-try_append.ensures.tried in
    record {
      steps = steps_twice c.args.most c.args.cost s r q c.args.closed.now c.loop-tree.closed c.try_append.new.closed v.steps e.steps;
      trees = e.trees ∙ v.trees;
      done = λ t from to. elim (below_or_last t c.loop-tree.tree (c.loop-tree.tree + 1) (omega arith) to) [
        | inl low ↦
            let costs = c.requires.costs t from (omega (arith, low, c.loop-tree-test.true)) in
            append_done_stays c.args.cost r q c.loop-tree.closed c.try_append.new.closed e.steps.goes c.args.hedge t
            (omega (arith, costs.hedge, v.steps.goes.grows.hedges)) (omega (arith, costs.tree, v.trees)) (v.done t from low)
        | inr same ↦ subst (IsAppendDone q c.try_append.new.closed c.args.hedge) (sym same) e.done
      ];
    }

pub returns-clause-tried : goal.returns-clause-tried
returns-clause-tried g c =
    let v = c.loop-tree.invariant in
    record { steps = v.steps; trees = v.trees; done = λ t from to. v.done t from (omega (arith, to, c.loop-tree-test.false)) }
