use Rattle.std.proofs.Common.{◌∙◌, sym, refl, get_or}
use Rattle.std.proofs.lemmas.Bool.{true≢false}
use Rattle.tc_tags.proofs.AddingLaws.{adds_none, adds_step, full_step, room_step, adds_all, written_at, blank_attribute}
use Rattle.tc_tags.proofs.ListedLaws.{blank}
use Rattle.tc_tags.proofs.rooms.add_all.Goals as goal

pub loop-attribute-init : goal.loop-attribute-init
loop-attribute-init c = record { most = refl; kept = c.requires.kept; added = λ ws are. adds_none c.args.names.now.bytes.items c.args.scopes.now.declared.items }

pub add_declared-requires-clause-room : goal.add_declared-requires-clause-room
add_declared-requires-clause-room c =
    let (ws, are) = c.requires.written in
    room_step c.args.tag.now c.args.list.now c.loop-attribute.attribute-index _ c.loop-attribute-test.true c.requires.room c.loop-attribute.invariant.added ws are

pub add_declared-requires-clause-written : goal.add_declared-requires-clause-written
add_declared-requires-clause-written c =
    let (ws, are) = c.requires.written in
    let k = c.loop-attribute.attribute-index in
    (get_or ws k blank_attribute, written_at c.args.tag.now c.args.list.now ws k blank blank_attribute are c.loop-attribute-test.true)

pub returns-then-not-add_declared-clause-kept : goal.returns-then-not-add_declared-clause-kept
returns-then-not-add_declared-clause-kept c = λ e. absurd (true≢false (sym e))

pub returns-then-not-add_declared-clause-added : goal.returns-then-not-add_declared-clause-added
returns-then-not-add_declared-clause-added c =
    full_step c.args.tag.now c.args.list.now c.loop-attribute.attribute-index blank c.loop-attribute-test.true c.args.names.now.most c.loop-attribute.names.most c.loop-attribute.invariant.added c.loop-attribute.invariant.most
    c.if-not-add_declared.ensures.added

pub loop-attribute-preserved : goal.loop-attribute-preserved
loop-attribute-preserved c = record {
  most = c.add_declared.ensures.most ∙ c.loop-attribute.invariant.most;
  kept = c.if-not-add_declared.ensures.kept refl;
  added = adds_step c.args.tag.now c.args.list.now c.loop-attribute.attribute-index blank c.loop-attribute-test.true c.loop-attribute.invariant.added c.if-not-add_declared.ensures.added;
}

pub returns-clause-added : goal.returns-clause-added
returns-clause-added c = adds_all c.args.tag.now c.args.list.now c.loop-attribute.attribute-index c.loop-attribute-test.false c.loop-attribute.invariant.added
