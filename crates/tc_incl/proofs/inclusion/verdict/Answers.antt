use Rattle.std.proofs.Common.{subst, ap, ◌∙◌, Err}
use Rattle.tc_model.specs.Trees.{none}
use Rattle.tc_model.specs.Views.{before}
use Rattle.tc_settle.specs.Closed.{tree_cost}
use Rattle.tc_settle.specs.Made.{IsOneMade}
use Rattle.tc_incl.specs.Covers.{held_of}
use Rattle.tc_incl.proofs.Decided.{all_derive, is_included, is_least, is_far}
use Rattle.tc_incl.proofs.inclusion.verdict.Goals as goal

pub returns-in_default-clause-answer : goal.returns-in_default-clause-answer
returns-in_default-clause-answer g c = λ x o.
    let of = g.K.Over.is_of in
    let s = c.args.covers.now in
    let closure = c.requires.settled.closure in
    is_included x s of o c.see.ensures.known (all_derive (held_of of s) c.args.closed.now closure) closure.closed c.args.most c.tree_count-trees.result c.hedge_count-hedges.result c.requires.settled.trees c.requires.settled.hedges c.tree_count-trees.ensures c.hedge_count-hedges.ensures c.in_default.ensures

pub returns-in-Ok-clause-answer : goal.returns-in-Ok-clause-answer
returns-in-Ok-clause-answer g c = λ x o.
    let of = g.K.Over.is_of in
    let s = c.args.covers.now in
    let closure = c.requires.settled.closure in
    is_least x s of o c.see.ensures.known (all_derive (held_of of s) c.args.closed.now closure) closure.closed (tree_cost c.args.closed.now) closure.tree_costs closure.kept.trees_in_order c.in-Some.tree c.in-Some.ensures
    c.args.most c.requires.settled.trees c.requires.settled.hedges (before c.in-Ok.node none)
    (subst (λ symbols. IsOneMade (held_of of s) symbols (before c.in-Ok.node none) c.in-Some.tree (tree_cost c.args.closed.now c.in-Some.tree)) (c.requires.alphabet x o) c.in-Ok.ensures.made) c.in-Ok.ensures.near

pub returns-in-Err-TooManyNodes-clause-answer : goal.returns-in-Err-TooManyNodes-clause-answer
returns-in-Err-TooManyNodes-clause-answer g c = λ x o.
    let of = g.K.Over.is_of in
    let s = c.args.covers.now in
    let closure = c.requires.settled.closure in
    is_far x s of o c.see.ensures.known (all_derive (held_of of s) c.args.closed.now closure) closure.closed (tree_cost c.args.closed.now) closure.tree_costs closure.kept.trees_in_order c.in-Some.tree c.in-Some.ensures
    c.args.most c.requires.settled.trees c.requires.settled.hedges (c.build.ensures.many (c.in-Err-TooManyNodes.is ∙ ap Err c.in-Err-TooManyNodes.field-0-is))
