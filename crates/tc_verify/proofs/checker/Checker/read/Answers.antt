use Rattle.tc_verify.proofs.HandedOn.{not_done}
use Rattle.tc_verify.proofs.checker.Checker.read.Goals as goal

pub read_hedges-requires-clause-rooms : goal.read_hedges-requires-clause-rooms
read_hedges-requires-clause-rooms c = c.requires.blank.hedges

pub read_hedges-requires-clause-lists : goal.read_hedges-requires-clause-lists
read_hedges-requires-clause-lists c = c.requires.blank.hedge_lists

pub read_trees-requires-clause-rooms : goal.read_trees-requires-clause-rooms
read_trees-requires-clause-rooms c = c.requires.blank.trees

pub read_trees-requires-clause-lists : goal.read_trees-requires-clause-lists
read_trees-requires-clause-lists c = c.requires.blank.tree_lists

pub returns-in_err-read_hedges-clause-read : goal.returns-in_err-read_hedges-clause-read
returns-in_err-read_hedges-clause-read c = not_done c.from_residual.result _ _ c.from_residual.ensures.1

pub returns-in_err-read_trees-clause-read : goal.returns-in_err-read_trees-clause-read
returns-in_err-read_trees-clause-read c = not_done c.from_residual-in_err-read_trees.result _ _ c.from_residual-in_err-read_trees.ensures.1
