use Rattle.std.proofs.Common.{◌≤◌, ◌-◌, ◌∙◌, ap, sym, arith, length, reverse, get_or}
use Rattle.tc_tags.specs.Chained.{chain_of, newest}
use Rattle.tc_tags.specs.Listed.{Parts, parts, has_parts}
use Rattle.tc_tags.proofs.ChainLaws.{begin, next, hit, miss, newest_within}
use Rattle.tc_tags.proofs.ListedLaws.{there_is, as_many_parts, follows_parts, is_found, not_found, no_parts, blank}
use Rattle.tc_tags.proofs.attributes.Sort.occurs.Goals as goal

pub returns-in_default : goal.returns-in_default
returns-in_default c = no_parts c.args.self c.args.tag.now c.args.names.now.bytes.items c.args.scopes.now.declared.items c.args.attribute.now c.args.seen.now c.in_default.ensures

pub loop-at-init : goal.loop-at-init
loop-at-init c =
    let tag = c.args.tag.now in
    let names = c.args.names.now.bytes.items in
    let ds = c.args.scopes.now.declared.items in
    let seen = c.args.seen.now in
    let cs = c.args.chains.now.chains in
    let p : Parts = (c.in-Some.name.0.now, c.in-Some.name.1.now) in
    begin (λ b. has_parts p (parts c.args.self tag names ds b)) seen cs (chain_of p.0 p.1) blank c.newest-at.result (as_many_parts c.args.self tag names ds seen cs c.requires.seen)
    (follows_parts c.args.self tag names ds p seen cs c.requires.seen) (c.newest-at.ensures ∙ ap (λ k. newest k (reverse cs)) c.chain_of.ensures.chain)

pub loop-at-smaller : goal.loop-at-smaller
loop-at-smaller c =
    let cs = c.args.chains.now.chains in
    let within = c.loop-at.invariant.within in
    let many = as_many_parts c.args.self c.args.tag.now c.args.names.now.bytes.items c.args.scopes.now.declared.items c.args.seen.now cs c.requires.seen in
    let some = c.loop-at-test.true in
    let fits : c.loop-at.at - 1 ≤ length cs = omega (arith, within, many) in
    let least = newest_within (get_or cs (c.loop-at.at - 1) 0) (c.loop-at.at - 1) cs fits in
    omega (arith, some, least, c.older-at.ensures)

pub loop-at-preserved : goal.loop-at-preserved
loop-at-preserved c =
    let tag = c.args.tag.now in
    let names = c.args.names.now.bytes.items in
    let ds = c.args.scopes.now.declared.items in
    let seen = c.args.seen.now in
    let cs = c.args.chains.now.chains in
    let p : Parts = (c.in-Some.name.0.now, c.in-Some.name.1.now) in
    let k = c.loop-at.at - 1 in
    next (λ b. has_parts p (parts c.args.self tag names ds b)) seen cs (chain_of p.0 p.1) (get_or seen k blank) c.loop-at.at c.older-at.result c.loop-at.invariant c.loop-at-test.true (there_is seen k blank)
    (sym c.if-has.ensures) (as_many_parts c.args.self tag names ds seen cs c.requires.seen) (follows_parts c.args.self tag names ds p seen cs c.requires.seen) c.older-at.ensures

pub returns-then-has : goal.returns-then-has
returns-then-has c =
    let tag = c.args.tag.now in
    let names = c.args.names.now.bytes.items in
    let ds = c.args.scopes.now.declared.items in
    let seen = c.args.seen.now in
    let p : Parts = (c.in-Some.name.0.now, c.in-Some.name.1.now) in
    let k = c.loop-at.at - 1 in
    is_found c.args.self tag names ds c.args.attribute.now p seen (get_or seen k blank) c.in-Some.ensures
    (hit (λ b. has_parts p (parts c.args.self tag names ds b)) seen c.args.chains.now.chains (chain_of p.0 p.1) (get_or seen k blank) c.loop-at.at c.loop-at.invariant c.loop-at-test.true (there_is seen k blank) (sym c.if-has.ensures))

pub returns : goal.returns
returns c =
    let tag = c.args.tag.now in
    let names = c.args.names.now.bytes.items in
    let ds = c.args.scopes.now.declared.items in
    let seen = c.args.seen.now in
    let p : Parts = (c.in-Some.name.0.now, c.in-Some.name.1.now) in
    let none = c.loop-at-test.false in
    not_found c.args.self tag names ds c.args.attribute.now p seen c.in-Some.ensures
    (miss (λ b. has_parts p (parts c.args.self tag names ds b)) seen c.args.chains.now.chains (chain_of p.0 p.1) blank c.loop-at.at c.loop-at.invariant (omega (arith, none)))

pub name-requires : goal.name-requires
name-requires c = c.requires.scopes

pub has-requires : goal.has-requires
has-requires c = c.requires.scopes
