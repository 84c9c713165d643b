use Rattle.tc_tags.specs.Written.{has_meaning}
use Rattle.tc_tags.proofs.ListedLaws.{blank}
use Rattle.tc_tags.proofs.RoomLaws.{all_so_far, not_all}
use Rattle.tc_tags.proofs.rooms.are_bound.Goals as goal

pub returns-then-not-is_bound : goal.returns-then-not-is_bound
returns-then-not-is_bound c =
    not_all (has_meaning c.args.tag.now c.args.names.now.bytes.items c.args.scopes.now.declared.items) c.args.list.now c.loop-attribute.attribute-index blank c.loop-attribute-test.true c.loop-attribute.invariant c.if-not-is_bound.ensures

pub loop-attribute-preserved : goal.loop-attribute-preserved
loop-attribute-preserved c =
    all_so_far (has_meaning c.args.tag.now c.args.names.now.bytes.items c.args.scopes.now.declared.items) c.args.list.now c.loop-attribute.attribute-index blank c.loop-attribute-test.true c.loop-attribute.invariant c.if-not-is_bound.ensures
