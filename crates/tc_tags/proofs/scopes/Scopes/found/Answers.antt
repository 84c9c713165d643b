use Rattle.std.proofs.Common.{◌≤◌, ◌-◌, ◌∙◌, [], ap, sym, arith, length, reverse, get_or}
use Rattle.tc_tags.specs.Chained.{chain_of, newest}
use Rattle.tc_tags.specs.Scoped.{declares}
use Rattle.tc_tags.proofs.ChainLaws.{begin, next, hit, miss, newest_within}
use Rattle.tc_tags.proofs.ScopeLaws.{as_many, follows_in, declares_is, blank}
use Rattle.tc_tags.proofs.scopes.Scopes.found.Goals as goal

pub loop-at-init : goal.loop-at-init
loop-at-init c =
    let names = c.args.names.now.bytes.items in
    let p = c.args.prefix.now in
    let ds = c.args.self.now.declared.items in
    let cs = c.args.self.now.chains.chains in
    begin (declares names p) ds cs (chain_of p []) blank c.newest-at.result (as_many names ds cs c.requires.chained) (follows_in names p ds cs c.requires.chained)
    (c.newest-at.ensures ∙ ap (λ k. newest k (reverse cs)) c.chain_of.ensures.chain)

pub loop-at-smaller : goal.loop-at-smaller
loop-at-smaller c =
    let cs = c.args.self.now.chains.chains in
    let within = c.loop-at.invariant.within in
    let many = as_many c.args.names.now.bytes.items c.args.self.now.declared.items cs c.requires.chained in
    let some = c.loop-at-test.true in
    let fits : c.loop-at.at - 1 ≤ length cs = omega (arith, within, many) in
    let least = newest_within (get_or cs (c.loop-at.at - 1) 0) (c.loop-at.at - 1) cs fits in
    omega (arith, some, least, c.older-at.ensures)

pub loop-at-preserved : goal.loop-at-preserved
loop-at-preserved c =
    let names = c.args.names.now.bytes.items in
    let p = c.args.prefix.now in
    let ds = c.args.self.now.declared.items in
    let cs = c.args.self.now.chains.chains in
    next (declares names p) ds cs (chain_of p []) c.index-declared.result.now c.loop-at.at c.older-at.result c.loop-at.invariant c.loop-at-test.true c.index-declared.ensures
    (declares_is names p c.bytes.result.now c.of.result.now c.index-declared.result.now _ c.bytes.ensures c.of.ensures c.if-eq.ensures)
    (as_many names ds cs c.requires.chained) (follows_in names p ds cs c.requires.chained) c.older-at.ensures

pub returns-then-eq : goal.returns-then-eq
returns-then-eq c =
    let names = c.args.names.now.bytes.items in
    let p = c.args.prefix.now in
    sym (hit (declares names p) c.args.self.now.declared.items c.args.self.now.chains.chains (chain_of p []) c.index-declared.result.now c.loop-at.at c.loop-at.invariant c.loop-at-test.true c.index-declared.ensures
    (declares_is names p c.bytes.result.now c.of.result.now c.index-declared.result.now _ c.bytes.ensures c.of.ensures c.if-eq.ensures))

pub returns : goal.returns
returns c =
    let p = c.args.prefix.now in
    let none = c.loop-at-test.false in
    sym (miss (declares c.args.names.now.bytes.items p) c.args.self.now.declared.items c.args.self.now.chains.chains (chain_of p []) blank c.loop-at.at c.loop-at.invariant (omega (arith, none)))
