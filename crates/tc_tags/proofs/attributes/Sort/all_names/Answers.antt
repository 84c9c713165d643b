use Rattle.std.proofs.Common.{◌∙◌, ap, rules}
use Rattle.std.proofs.lemmas.List.{take_all}
use Rattle.tc_tags.specs.Listed.{all_parts}
use Rattle.tc_tags.proofs.ListedLaws.{names_more, names_same, blank}
use Rattle.tc_tags.proofs.attributes.Sort.all_names.Goals as goal

pub loop-attribute-preserved-in_default : goal.loop-attribute-preserved-in_default
loop-attribute-preserved-in_default c =
    names_same c.args.self c.args.tag.now c.args.names.now.bytes.items c.args.scopes.now.declared.items c.args.list.now c.loop-attribute.attribute-index blank c.loop-attribute.found.items
    c.loop-attribute-test.true c.loop-attribute.invariant c.in_default.ensures

pub loop-attribute-preserved : goal.loop-attribute-preserved
loop-attribute-preserved c =
    names_more c.args.self c.args.tag.now c.args.names.now.bytes.items c.args.scopes.now.declared.items c.args.list.now c.loop-attribute.attribute-index blank c.loop-attribute.found.items
    c.push.new.self.items (c.in-Some.second, c.in-Some.first) c.loop-attribute-test.true c.loop-attribute.invariant c.in-Some.ensures (search rules)

pub returns : goal.returns
returns c =
    c.loop-attribute.invariant
    ∙ ap (all_parts c.args.self c.args.tag.now c.args.names.now.bytes.items c.args.scopes.now.declared.items) (take_all c.loop-attribute.attribute-index c.args.list.now c.loop-attribute-test.false)
