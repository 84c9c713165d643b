use Rattle.std.proofs.Common.{◌∙◌, List, sym, subst, refl}
use Rattle.std.specs.List.{IsDistinct}
use Rattle.std.proofs.lemmas.List.{take_all}
use Rattle.tc_tags.specs.Listed.{same_parts, all_parts}
use Rattle.tc_tags.specs.declared.attributes.Attribute.{Attribute}
use Rattle.tc_tags.proofs.ListedLaws.{apart_none, apart_more, apart_no_more, chains_more, blank}
use Rattle.tc_tags.proofs.attributes.Sort.are_apart.Goals as goal

pub loop-at-init : goal.loop-at-init
loop-at-init c = record { most = refl; seen = c.requires.none; apart = apart_none }

pub returns-then-occurs-clause-apart : goal.returns-then-occurs-clause-apart
returns-then-occurs-clause-apart c =
    let names = c.args.names.now.bytes.items in
    let ds = c.args.scopes.now.declared.items in
    let list = c.args.list.now in
    apart_no_more c.args.self c.args.tag.now names ds list c.loop-at.at blank c.loop-at-test.true
    (sym c.if-occurs.ensures)

pub loop-at-preserved : goal.loop-at-preserved
loop-at-preserved c =
    let names = c.args.names.now.bytes.items in
    let ds = c.args.scopes.now.declared.items in
    let list = c.args.list.now in
    record {
      most = c.push.ensures.most ∙ c.loop-at.invariant.most;
      seen = chains_more c.args.self c.args.tag.now names ds list c.loop-at.at blank c.loop-at.chains.chains c.push.new.self.chains c.chain.result c.loop-at-test.true c.loop-at.invariant.seen c.chain.ensures.chain c.push.ensures.chains;
      apart = apart_more c.args.self c.args.tag.now names ds list c.loop-at.at blank c.loop-at-test.true c.loop-at.invariant.apart
          (sym c.if-occurs.ensures);
    }

pub returns-then-occurs-clause-most : goal.returns-then-occurs-clause-most
returns-then-occurs-clause-most c = c.loop-at.invariant.most

pub returns-clause-most : goal.returns-clause-most
returns-clause-most c = c.loop-at.invariant.most

pub returns-clause-apart : goal.returns-clause-apart
returns-clause-apart c = subst (λ (l : List Attribute). IsDistinct same_parts (all_parts c.args.self c.args.tag.now c.args.names.now.bytes.items c.args.scopes.now.declared.items l))
    (take_all c.loop-at.at c.args.list.now c.loop-at-test.false) c.loop-at.invariant.apart

pub occurs-requires-clause-scopes : goal.occurs-requires-clause-scopes
occurs-requires-clause-scopes c = c.requires.scopes

pub occurs-requires-clause-seen : goal.occurs-requires-clause-seen
occurs-requires-clause-seen c = c.loop-at.invariant.seen
