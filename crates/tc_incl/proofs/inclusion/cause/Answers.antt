use Rattle.std.proofs.Common.{subst}
use Rattle.tc_settle.specs.Closed.{IsCause}
use Rattle.tc_settle.specs.Derived.{HaveTooManyTrees, HaveTooManyHedges}
use Rattle.tc_incl.specs.Covers.{held_of}
use Rattle.tc_incl.proofs.Decided.{pass_trees, pass_hedges}
use Rattle.tc_incl.proofs.inclusion.cause.Goals as goal

pub returns-in-TooManyTrees : goal.returns-in-TooManyTrees
returns-in-TooManyTrees g c =
    let of = g.K.Over.is_of in
    let s = c.args.covers.now in
    let why : HaveTooManyTrees (held_of of s) c.args.most = subst (λ f. IsCause ⊥ c.args.most (held_of of s) f) c.in-TooManyTrees.is c.requires in
    λ x o. pass_trees x s of o c.see.ensures.known why.1 c.args.most why.0

pub returns-in-TooManyHedges : goal.returns-in-TooManyHedges
returns-in-TooManyHedges g c =
    let of = g.K.Over.is_of in
    let s = c.args.covers.now in
    let why : HaveTooManyHedges (held_of of s) c.args.most = subst (λ f. IsCause ⊥ c.args.most (held_of of s) f) c.in-TooManyHedges.is c.requires in
    λ x o. pass_hedges x s of o c.see.ensures.known why.1 c.args.most why.0
