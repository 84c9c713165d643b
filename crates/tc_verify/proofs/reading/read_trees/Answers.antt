use Rattle.std.proofs.Common.{ℕ, List, subst, arith}
use Rattle.tc_verify.specs.Listings.{HasMore}
use Rattle.tc_beh.specs.declared.rooms.TRow.{TRow}
use Rattle.tc_verify.specs.Rooms.{IsReadTree}
use Rattle.tc_verify.proofs.LinesRead.{tree_fits_room}
use Rattle.tc_verify.proofs.Looping.{tree_read, one_read}
use Rattle.tc_verify.proofs.HandedOn.{not_done}
use Rattle.tc_verify.proofs.reading.read_trees.Goals as goal

pub read-requires : goal.read-requires
read-requires c = tree_fits_room c.args.machine.now c.args.cert.now c.requires.fit.formed c.requires.fit.fit c.requires.fit.machine c.loop-place.place c.get.result.now c.get.ensures c.in_ok-room.room.room c.in_ok-room.ensures

pub loop-place-preserved : goal.loop-place-preserved
loop-place-preserved c =
    let row = tree_read c.args.machine.now c.args.cert.now c.loop-place.place c.get.result.now c.get.ensures c.in_ok-room.room c.read.new.self c.in_ok-room.ensures c.read.ensures.beside c.read.ensures.line c.read.ensures.flags in
    let more = subst (λ (ns : List ℕ). HasMore c.loop-place.lists c.keep.new.self ns) c.numbers.ensures c.in_ok-keep.ensures in
    let all = one_read (λ (r : TRow). r.room.numbers.items) (IsReadTree c.args.machine.now c.args.cert.now) c.loop-place.rooms.items c.push.new.self.items c.read.new.self c.loop-place.place c.loop-place.lists c.keep.new.self c.in_ok-push.ensures.items
    c.loop-place.invariant.count c.loop-place.invariant.each row c.loop-place.invariant.held more in
    record { count = all.count; each = all.each; held = all.held }

pub returns : goal.returns
returns c = record { count = grind arith; each = c.loop-place.invariant.each; held = c.loop-place.invariant.held }

pub returns-in_err-room : goal.returns-in_err-room
returns-in_err-room c = not_done c.from_residual.result _ _ c.from_residual.ensures.1

pub returns-in_err-keep : goal.returns-in_err-keep
returns-in_err-keep c = not_done c.from_residual-in_err-keep.result _ _ c.from_residual-in_err-keep.ensures.1

pub returns-in_err-push : goal.returns-in_err-push
returns-in_err-push c = not_done c.from_residual-in_err-push.result _ _ c.from_residual-in_err-push.ensures.1
