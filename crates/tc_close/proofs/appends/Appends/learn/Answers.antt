use Rattle.tc_close.specs.declared.appends.Appends.{Appends}
use Rattle.tc_close.proofs.AppendLaws.{kept_more}
use Rattle.tc_close.proofs.appends.Appends.learn.Goals as goal

pub returns-else-self-tree-clause-kept : goal.returns-else-self-tree-clause-kept
returns-else-self-tree-clause-kept c =
    let evens : Appends = record c.args.self.now { hedges = c.evens-self.result; trees = c.evens-self-2.result; again = c.saturating_add-self.result } in
    kept_more c.args.lists.hedges.now c.args.lists.trees.now evens (record { even_hedges = c.evens-self.ensures; even_trees = c.evens-self-2.ensures; made = c.requires.kept.made }) c.remember.new.made c.args.hedge c.args.tree c.args.made c.requires.hedge c.requires.tree c.requires.made c.remember.ensures
