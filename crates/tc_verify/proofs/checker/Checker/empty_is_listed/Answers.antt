use Rattle.std.proofs.Common.{refl}
use Rattle.tc_verify.specs.Checkers.{view_of}
use Rattle.tc_verify.proofs.Kept.{are_rows, hedge_room, same_room, stays, same_listing}
use Rattle.tc_verify.proofs.Trials.{empty_found, empty_left}
use Rattle.tc_verify.proofs.checker.Checker.empty_is_listed.Goals as goal

pub empty_row-requires-clause-rows : goal.empty_row-requires-clause-rows
empty_row-requires-clause-rows c = are_rows c.requires.checked

pub empty_row-requires-clause-room : goal.empty_row-requires-clause-room
empty_row-requires-clause-room c = hedge_room c.requires.checked

pub returns-in-Ok-clause-stays : goal.returns-in-Ok-clause-stays
returns-in-Ok-clause-stays c = record {
  checked = stays c.requires.checked c.empty_row.new.self c.empty_row.ensures.same c.empty_row.ensures.rows (c.empty_row.ensures.fixed c.requires.checked.fixed) c.empty_row.new.out c.args.self.now.new_tree c.empty_row.ensures.room (same_room c.args.self.now.new_tree.room);
  same = same_listing c.requires.checked c.empty_row.new.self c.empty_row.ensures.same c.empty_row.ensures.rows (c.empty_row.ensures.fixed c.requires.checked.fixed) (view_of c.args.self.now) refl;
}

pub returns-in-Err-clause-stays : goal.returns-in-Err-clause-stays
returns-in-Err-clause-stays c = record {
  checked = stays c.requires.checked c.empty_row.new.self c.empty_row.ensures.same c.empty_row.ensures.rows (c.empty_row.ensures.fixed c.requires.checked.fixed) c.empty_row.new.out c.args.self.now.new_tree c.empty_row.ensures.room (same_room c.args.self.now.new_tree.room);
  same = same_listing c.requires.checked c.empty_row.new.self c.empty_row.ensures.same c.empty_row.ensures.rows (c.empty_row.ensures.fixed c.requires.checked.fixed) (view_of c.args.self.now) refl;
}

pub returns-in-Ok-clause-exact : goal.returns-in-Ok-clause-exact
returns-in-Ok-clause-exact c = empty_found c.requires.checked (view_of c.args.self.now) refl c.empty_row.new.self (c.empty_row.ensures.fixed c.requires.checked.fixed) c.empty_row.new.out c.in-Ok.ensures.row c.has.result c.numbers.result.now c.numbers.ensures c.has.ensures

pub returns-in-Err-clause-exact : goal.returns-in-Err-clause-exact
returns-in-Err-clause-exact c = empty_left c.requires.checked (view_of c.args.self.now) refl c.empty_row.new.self (c.empty_row.ensures.fixed c.requires.checked.fixed) (λ x u a made. (c.in-Err.ensures.partly x u a made).1)
