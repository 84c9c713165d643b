use Rattle.std.proofs.Common.{◌≡◌, ◌∙◌, subst, ap, reverse, arith, append-nil, length}
use Rattle.std.proofs.lemmas.List.{length-set}
use Rattle.tc_tags.specs.Chained.{AreLinked, AreNewest}
use Rattle.tc_tags.proofs.ChainLaws.{forgotten, fewer_chains, no_chains}
use Rattle.tc_tags.proofs.chains.Chains.forget.Goals as goal

pub index_mut-requires : goal.index_mut-requires
index_mut-requires c =
    let s = c.self.inside in
    let left = forgotten s.links.items c.pop.new.self.items c.in-Some.link s.newest.items c.in-Some.ensures.items c.self.invariant.2 c.self.invariant.3 c.self.invariant.4 in
    omega (arith, left.0, c.self.invariant.2, s.newest.ok.0)

pub invariant_of-self : goal.invariant_of-self
invariant_of-self c =
    let s = c.self.inside in
    let left = forgotten s.links.items c.pop.new.self.items c.in-Some.link s.newest.items c.in-Some.ensures.items c.self.invariant.2 c.self.invariant.3 c.self.invariant.4 in (
      omega (arith, c.in-Some.ensures.len, c.self.invariant.0),
      omega (arith, c.in-Some.ensures.capacity, c.self.invariant.1),
      length-set s.newest.items c.in-Some.link.chain c.in-Some.link.older ∙ c.self.invariant.2,
      left.1,
      left.2,
    )

pub invariant_of-self-in_default : goal.invariant_of-self-in_default
invariant_of-self-in_default c =
    let s = c.self.inside in
    let same = ap reverse (c.in_default.ensures.items ∙ append-nil c.pop.new.self.items) in (
      omega (arith, c.in_default.ensures.len, c.self.invariant.0),
      omega (arith, c.in_default.ensures.capacity, c.self.invariant.1),
      c.self.invariant.2,
      subst AreLinked same c.self.invariant.3,
      subst (λ w. AreNewest w s.newest.items) same c.self.invariant.4,
    )

pub returns-in-Some-clause-most : goal.returns-in-Some-clause-most
returns-in-Some-clause-most c = ap (λ t. t.most) c.self.view_is

pub returns-in-Some-clause-chains : goal.returns-in-Some-clause-chains
returns-in-Some-clause-chains c = fewer_chains c.self.inside.links.items c.pop.new.self.items c.in-Some.link c.args.self.now.chains c.in-Some.ensures.items (ap (λ t. t.chains) c.self.view_is)

pub returns-in_default-clause-most : goal.returns-in_default-clause-most
returns-in_default-clause-most c = ap (λ t. t.most) c.self.view_is

pub returns-in_default-clause-chains : goal.returns-in_default-clause-chains
returns-in_default-clause-chains c =
    let none : length c.self.inside.links.items ≡ 0 = omega (arith, c.in_default.ensures.cases.0, c.self.inside.links.ok.0) in
    no_chains c.self.inside.links.items c.pop.new.self.items c.args.self.now.chains c.in_default.ensures.items none (ap (λ t. t.chains) c.self.view_is)
