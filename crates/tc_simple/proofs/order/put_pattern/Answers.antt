use Rattle.std.proofs.Common.{refl, set, map, sym, subst, arith}
use Rattle.std.proofs.lemmas.Option.{slice_get_read}
use Rattle.tc_simple.specs.Nodes.{HasNumbersBelow, see_element}
use Rattle.tc_simple.proofs.Answered.{failed_on}
use Rattle.tc_simple.proofs.Ordered.{pattern_put}
use Rattle.tc_simple.proofs.order.put_pattern.Goals as goal

pub returns : goal.returns
returns c =
    let t = c.args.table.now in
    let k = c.args.number in
    let es = map see_element c.args.elements.now in
    let old = c.args.made.now in
    let one = c.index.result.now in
    pattern_put t c.args.marks.now es k one c.in_ok-p.p old (set old k c.in_ok-p.p) c.if-not-marks-number.false (slice_get_read t.patterns.items _ k one refl c.requires.place.within c.index.ensures) refl
    c.in_ok-p.ensures

pub bounds-marks-number : goal.bounds-marks-number
bounds-marks-number c = omega (arith, c.requires.place.within, c.requires.marks.marks)

pub index-requires : goal.index-requires
index-requires c = omega (arith, c.requires.place.within, c.args.table.now.patterns.ok.0)

pub pattern-requires-clause-few : goal.pattern-requires-clause-few
pattern-requires-clause-few c = c.requires.few

pub pattern-requires-clause-numbers : goal.pattern-requires-clause-numbers
pattern-requires-clause-numbers c = subst (HasNumbersBelow c.args.table.now) (sym c.requires.place.room) c.requires.marks.numbers

pub returns-in_err-p : goal.returns-in_err-p
returns-in_err-p c = failed_on c.from_residual.result _ _ c.from_residual.ensures.1

pub bounds-made-number : goal.bounds-made-number
bounds-made-number c = omega (arith, c.requires.place.within, c.requires.place.room)
