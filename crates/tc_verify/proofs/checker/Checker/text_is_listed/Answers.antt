use Rattle.std.proofs.Common.{◌≡◌, true, false, refl}
use Rattle.tc_verify.specs.Checkers.{view_of}
use Rattle.tc_verify.proofs.Kept.{are_rows, tree_room, same_room, stays, same_listing}
use Rattle.tc_verify.proofs.Trials.{text_found, text_dead, text_left}
use Rattle.tc_verify.proofs.checker.Checker.text_is_listed.Goals as goal

pub text_row-requires-clause-rows : goal.text_row-requires-clause-rows
text_row-requires-clause-rows c = are_rows c.requires.checked

pub text_row-requires-clause-room : goal.text_row-requires-clause-room
text_row-requires-clause-room c = tree_room c.requires.checked

pub returns-in-Ok-true-clause-stays : goal.returns-in-Ok-true-clause-stays
returns-in-Ok-true-clause-stays c = record {
  checked = stays c.requires.checked c.text_row.new.self c.text_row.ensures.same c.text_row.ensures.rows (c.text_row.ensures.fixed c.requires.checked.fixed) c.args.self.now.new_hedge c.text_row.new.out (same_room c.args.self.now.new_hedge.room) c.text_row.ensures.room;
  same = same_listing c.requires.checked c.text_row.new.self c.text_row.ensures.same c.text_row.ensures.rows (c.text_row.ensures.fixed c.requires.checked.fixed) (view_of c.args.self.now) refl;
}

pub returns-in-Ok-false-clause-stays : goal.returns-in-Ok-false-clause-stays
returns-in-Ok-false-clause-stays c = record {
  checked = stays c.requires.checked c.text_row.new.self c.text_row.ensures.same c.text_row.ensures.rows (c.text_row.ensures.fixed c.requires.checked.fixed) c.args.self.now.new_hedge c.text_row.new.out (same_room c.args.self.now.new_hedge.room) c.text_row.ensures.room;
  same = same_listing c.requires.checked c.text_row.new.self c.text_row.ensures.same c.text_row.ensures.rows (c.text_row.ensures.fixed c.requires.checked.fixed) (view_of c.args.self.now) refl;
}

pub returns-in-Err-clause-stays : goal.returns-in-Err-clause-stays
returns-in-Err-clause-stays c = record {
  checked = stays c.requires.checked c.text_row.new.self c.text_row.ensures.same c.text_row.ensures.rows (c.text_row.ensures.fixed c.requires.checked.fixed) c.args.self.now.new_hedge c.text_row.new.out (same_room c.args.self.now.new_hedge.room) c.text_row.ensures.room;
  same = same_listing c.requires.checked c.text_row.new.self c.text_row.ensures.same c.text_row.ensures.rows (c.text_row.ensures.fixed c.requires.checked.fixed) (view_of c.args.self.now) refl;
}

pub returns-in-Ok-true-clause-exact : goal.returns-in-Ok-true-clause-exact
returns-in-Ok-true-clause-exact c =
    let yes : c.in-Ok-true.field-0 ≡ true = cc in
    text_found c.requires.checked (view_of c.args.self.now) refl c.text_row.new.self (c.text_row.ensures.fixed c.requires.checked.fixed) c.text_row.new.out (c.in-Ok-true.ensures.row yes) (c.in-Ok-true.ensures.live yes) c.has.result c.numbers.result.now c.numbers.ensures c.has.ensures

pub returns-in-Ok-false-clause-exact : goal.returns-in-Ok-false-clause-exact
returns-in-Ok-false-clause-exact c =
    let no : c.in-Ok-false.field-0 ≡ false = cc in
    text_dead c.requires.checked (view_of c.args.self.now) refl c.text_row.new.self (c.text_row.ensures.fixed c.requires.checked.fixed) (c.in-Ok-false.ensures.dead no).1

pub returns-in-Err-clause-exact : goal.returns-in-Err-clause-exact
returns-in-Err-clause-exact c = text_left c.requires.checked (view_of c.args.self.now) refl c.text_row.new.self (c.text_row.ensures.fixed c.requires.checked.fixed) c.in-Err.ensures.err (λ x u a made. (c.in-Err.ensures.partly x u a made).1)
