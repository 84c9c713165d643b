use Rattle.std.proofs.Common.{subst}
use Rattle.tc_settle.specs.Closed.{IsCause}
use Rattle.tc_settle.specs.Derived.{HaveTooManyTrees, HaveTooManyHedges, AllDerive}
use Rattle.tc_close.specs.RowState.{held_of, IsFull}
use Rattle.tc_close.proofs.Decided.{pass_trees, pass_hedges, pass_outputs}
use Rattle.tc_close.proofs.decision.close_fault.Goals as goal

pub returns-in-TooManyTrees : goal.returns-in-TooManyTrees
returns-in-TooManyTrees g c =
    let of = g.K.Over.is_of in
    let s = c.args.rows.now in
    let why : HaveTooManyTrees (held_of of s) c.args.most = subst (λ f. IsCause (IsFull of s) c.args.most (held_of of s) f) c.in-TooManyTrees.is c.requires in
    λ x o. pass_trees x s of o c.output_count-outputs.ensures.known c.args.most why.0 why.1

pub returns-in-TooManyHedges : goal.returns-in-TooManyHedges
returns-in-TooManyHedges g c =
    let of = g.K.Over.is_of in
    let s = c.args.rows.now in
    let why : HaveTooManyHedges (held_of of s) c.args.most = subst (λ f. IsCause (IsFull of s) c.args.most (held_of of s) f) c.in-TooManyHedges.is c.requires in
    λ x o. pass_hedges x s of o c.output_count-outputs.ensures.known c.args.most why.0 why.1

pub returns-in-Full : goal.returns-in-Full
returns-in-Full g c =
    let of = g.K.Over.is_of in
    let s = c.args.rows.now in
    let why : IsFull of s × AllDerive (held_of of s) = subst (λ f. IsCause (IsFull of s) c.args.most (held_of of s) f) c.in-Full.is c.requires in
    λ x o. pass_outputs x s of o c.output_count-outputs.ensures.known why.1 why.0.0 (why.0.1 x o)
