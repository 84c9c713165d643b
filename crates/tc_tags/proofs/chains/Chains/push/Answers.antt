use Rattle.std.proofs.Common.{◌≡◌, ◌<◌, ◌+◌, ◌++◌, ◌∷◌, [], ◌∙◌, sym, subst, ap, reverse, length, arith}
use Rattle.std.specs.Prelude.{vec_len, vec_capacity, slice_set}
use Rattle.std.proofs.lemmas.Bool.{true≢false, cond-true}
use Rattle.std.proofs.lemmas.List.{length-set, length-map}
use Rattle.tc_tags.specs.Chained.{AreLinked, AreNewest, chains_of}
use Rattle.tc_tags.specs.declared.chains.Link.{Link}
use Rattle.tc_tags.proofs.ChainLaws.{added, more_chains}
use Rattle.tc_tags.proofs.chains.Chains.push.Goals as goal

pub index-requires : goal.index-requires
index-requires c = omega (arith, c.requires.chain, c.self.invariant.2, c.self.inside.newest.ok.0)

pub index_mut-requires : goal.index_mut-requires
index_mut-requires c = omega (arith, c.requires.chain, c.self.invariant.2, c.self.inside.newest.ok.0)

abbrev link_of : goal.After-self-1 → Link
link_of c = record { chain = c.args.chain; older = c.index.result.now }

items_of : (c : goal.After-self-1) → c.push.new.self.items ≡ c.self.inside.links.items ++ link_of c ∷ []
items_of c = c.push.ensures.items ∙ cond-true _ _ _ (sym c.is_ok.ensures.value ∙ c.if-is_ok.true)

pub invariant_of-self : goal.invariant_of-self
invariant_of-self c =
    let s = c.self.inside in
    let room = c.requires.room in
    let more = added s.links.items (link_of c) s.newest.items c.self.invariant.2 c.requires.chain c.index.ensures c.self.invariant.3 c.self.invariant.4 in
    let same = ap reverse (sym (items_of c)) in
    let count : length s.links.items + 1 ≡ c.len-count.result + 1 = omega (arith, c.len-count.ensures, s.links.ok.0) in
    let len = length-map s.links.items (λ m. m.chain) in (
      omega (arith, c.push.ensures.upper_bound, room, ap (λ t. length t.chains) c.self.view_is, ap (λ t. t.most) c.self.view_is, len, s.links.ok.0),
      omega (arith, c.push.ensures.capacity, c.self.invariant.1),
      length-set s.newest.items c.args.chain (c.len-count.result + 1) ∙ c.self.invariant.2,
      subst AreLinked same more.0,
      subst (λ n. AreNewest (reverse c.push.new.self.items) (slice_set s.newest.items c.args.chain n)) count (subst (λ w. AreNewest w (slice_set s.newest.items c.args.chain (length s.links.items + 1))) same more.1),
    )

pub returns-then-is_ok-clause-most : goal.returns-then-is_ok-clause-most
returns-then-is_ok-clause-most c = ap (λ t. t.most) c.self.view_is

pub returns-then-is_ok-clause-chains : goal.returns-then-is_ok-clause-chains
returns-then-is_ok-clause-chains c = ap chains_of (items_of c) ∙ more_chains c.self.inside.links.items (link_of c) c.args.self.now.chains (ap (λ t. t.chains) c.self.view_is)

not_full : goal.Else-is_ok → ⊥
not_full c =
    let s = c.self.inside in
    let room = c.requires.room in
    let less : vec_len s.links < vec_capacity s.links =
    omega (arith, room, ap (λ t. length t.chains) c.self.view_is, ap (λ t. t.most) c.self.view_is, length-map s.links.items (λ m. m.chain), s.links.ok.0, c.self.invariant.1) in
    true≢false (sym (c.push.ensures.succeeds less) ∙ (sym c.is_ok.ensures.value ∙ c.if-is_ok.false))

pub invariant_of-self-else-is_ok : goal.invariant_of-self-else-is_ok
invariant_of-self-else-is_ok c = absurd (not_full c)

pub returns-else-is_ok-clause-most : goal.returns-else-is_ok-clause-most
returns-else-is_ok-clause-most c = ap (λ t. t.most) c.self.view_is

pub returns-else-is_ok-clause-chains : goal.returns-else-is_ok-clause-chains
returns-else-is_ok-clause-chains c = absurd (not_full c)
