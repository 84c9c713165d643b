use Rattle.tc_rules.proofs.Writing.{push_bits, push_padded}
use Rattle.tc_rules.proofs.rows.Written.push.Goals as goal

pub returns-clause-made : goal.returns-clause-made
returns-clause-made c =
    push_padded c.args.self.now.len c.in-Some.len c.args.self.now.words.items c.make_room.new.words.items c.set_if.new.words.items c.args.value c.in-Some.ensures.1 c.requires c.in_ok-make_room.ensures.room c.in_ok-make_room.ensures.bits c.set_if.ensures

pub returns-clause-bits : goal.returns-clause-bits
returns-clause-bits c =
    push_bits c.args.self.now.len c.in-Some.len c.args.self.now.words.items c.make_room.new.words.items c.set_if.new.words.items c.args.value c.in-Some.ensures.1 c.requires c.in_ok-make_room.ensures.room c.in_ok-make_room.ensures.bits c.set_if.ensures
