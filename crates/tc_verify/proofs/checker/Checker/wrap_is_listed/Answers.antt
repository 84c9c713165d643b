use Rattle.std.proofs.Common.{◌≡◌, true, false, refl}
use Rattle.tc_verify.specs.Checkers.{view_of}
use Rattle.tc_verify.proofs.Kept.{are_rows, hedge_at, tree_room, hedge_stands, low_symbol, same_room, stays, same_listing}
use Rattle.tc_verify.proofs.Trials.{wrap_found, wrap_dead, wrap_left}
use Rattle.tc_verify.proofs.checker.Checker.wrap_is_listed.Goals as goal

pub wrap-requires-clause-rows : goal.wrap-requires-clause-rows
wrap-requires-clause-rows c = are_rows c.requires.checked

pub wrap-requires-clause-symbol : goal.wrap-requires-clause-symbol
wrap-requires-clause-symbol c = λ x a. low_symbol c.requires.checked x a c.args.symbol c.requires.row.1

pub wrap-requires-clause-hedge : goal.wrap-requires-clause-hedge
wrap-requires-clause-hedge c = λ x a. (hedge_stands c.requires.checked c.args.hedge c.index-inner.result.now (hedge_at c.args.self.now.hedges.items c.args.hedge c.index-inner.result.now c.requires.row.0 c.index-inner.ensures) x a).0

pub wrap-requires-clause-room : goal.wrap-requires-clause-room
wrap-requires-clause-room c = tree_room c.requires.checked

pub returns-in-Ok-true-clause-stays : goal.returns-in-Ok-true-clause-stays
returns-in-Ok-true-clause-stays c = record {
  checked = stays c.requires.checked c.wrap.new.self c.wrap.ensures.same c.wrap.ensures.rows (c.wrap.ensures.fixed c.requires.checked.fixed) c.args.self.now.new_hedge c.wrap.new.out (same_room c.args.self.now.new_hedge.room) c.wrap.ensures.room;
  same = same_listing c.requires.checked c.wrap.new.self c.wrap.ensures.same c.wrap.ensures.rows (c.wrap.ensures.fixed c.requires.checked.fixed) (view_of c.args.self.now) refl;
}

pub returns-in-Ok-false-clause-stays : goal.returns-in-Ok-false-clause-stays
returns-in-Ok-false-clause-stays c = record {
  checked = stays c.requires.checked c.wrap.new.self c.wrap.ensures.same c.wrap.ensures.rows (c.wrap.ensures.fixed c.requires.checked.fixed) c.args.self.now.new_hedge c.wrap.new.out (same_room c.args.self.now.new_hedge.room) c.wrap.ensures.room;
  same = same_listing c.requires.checked c.wrap.new.self c.wrap.ensures.same c.wrap.ensures.rows (c.wrap.ensures.fixed c.requires.checked.fixed) (view_of c.args.self.now) refl;
}

pub returns-in-Err-clause-stays : goal.returns-in-Err-clause-stays
returns-in-Err-clause-stays c = record {
  checked = stays c.requires.checked c.wrap.new.self c.wrap.ensures.same c.wrap.ensures.rows (c.wrap.ensures.fixed c.requires.checked.fixed) c.args.self.now.new_hedge c.wrap.new.out (same_room c.args.self.now.new_hedge.room) c.wrap.ensures.room;
  same = same_listing c.requires.checked c.wrap.new.self c.wrap.ensures.same c.wrap.ensures.rows (c.wrap.ensures.fixed c.requires.checked.fixed) (view_of c.args.self.now) refl;
}

pub returns-in-Ok-true-clause-exact : goal.returns-in-Ok-true-clause-exact
returns-in-Ok-true-clause-exact c =
    let yes : c.in-Ok-true.field-0 ≡ true = cc in
    wrap_found c.requires.checked (view_of c.args.self.now) refl c.wrap.new.self (c.wrap.ensures.fixed c.requires.checked.fixed) c.args.hedge c.args.symbol c.index-inner.result.now (hedge_at c.args.self.now.hedges.items c.args.hedge c.index-inner.result.now c.requires.row.0 c.index-inner.ensures) c.wrap.new.out (c.in-Ok-true.ensures.row yes) (c.in-Ok-true.ensures.live yes) c.has.result c.numbers.result.now c.numbers.ensures c.has.ensures

pub returns-in-Ok-false-clause-exact : goal.returns-in-Ok-false-clause-exact
returns-in-Ok-false-clause-exact c =
    let no : c.in-Ok-false.field-0 ≡ false = cc in
    wrap_dead c.requires.checked (view_of c.args.self.now) refl c.wrap.new.self (c.wrap.ensures.fixed c.requires.checked.fixed) c.args.hedge c.args.symbol c.index-inner.result.now (hedge_at c.args.self.now.hedges.items c.args.hedge c.index-inner.result.now c.requires.row.0 c.index-inner.ensures) (c.in-Ok-false.ensures.dead no).1

pub returns-in-Err-clause-exact : goal.returns-in-Err-clause-exact
returns-in-Err-clause-exact c = wrap_left c.requires.checked (view_of c.args.self.now) refl c.wrap.new.self (c.wrap.ensures.fixed c.requires.checked.fixed) c.args.hedge c.args.symbol c.index-inner.result.now (hedge_at c.args.self.now.hedges.items c.args.hedge c.index-inner.result.now c.requires.row.0 c.index-inner.ensures) c.in-Err.ensures.err (λ x u a made. (c.in-Err.ensures.partly x u a made).1)
