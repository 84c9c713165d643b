use Rattle.std.proofs.Common.{refl, ap, set, sym, subst, arith}
use Rattle.std.proofs.lemmas.Option.{slice_get_read}
use Rattle.tc_simple.specs.Nodes.{HasNumbersBelow}
use Rattle.tc_simple.proofs.Ordered.{size_put}
use Rattle.tc_simple.proofs.order.put_size.Goals as goal

pub returns : goal.returns
returns c =
    let t = c.args.table.now in
    let k = c.args.number in
    let old = c.args.sizes.now in
    let one = c.index.result.now in
    size_put t c.args.marks.now k one old (set old k c.measure-size.result) c.if-not-marks-number.false (slice_get_read t.patterns.items _ k one refl c.requires.place.within c.index.ensures)
    (ap (set old k) c.measure-size.ensures)

pub bounds-marks-number : goal.bounds-marks-number
bounds-marks-number c = omega (arith, c.requires.place.within, c.requires.marks.marks)

pub index-requires : goal.index-requires
index-requires c = omega (arith, c.requires.place.within, c.args.table.now.patterns.ok.0)

pub measure-size-requires : goal.measure-size-requires
measure-size-requires c = subst (HasNumbersBelow c.args.table.now) (sym c.requires.place.room) c.requires.marks.numbers

pub bounds-sizes-number : goal.bounds-sizes-number
bounds-sizes-number c = omega (arith, c.requires.place.within, c.requires.place.room)
