use Rattle.std.proofs.Common.{◌-◌, ◌<◌, ◌∙◌, ap, map, drop, arith}
use Rattle.tc_model.specs.Letters.{marks_of}
use Rattle.tc_model.specs.Sheets.{Test}
use Rattle.std.proofs.Common.{◌≡◌}
use Rattle.tc_model.specs.Numberings.{predicates_of}
use Rattle.tc_model.specs.Views as see
use Rattle.tc_rules.specs.Kept.{told}
use Rattle.tc_rows.specs.Bodies.{holds_by}
use Rattle.tc_beh.proofs.Looking.{finds}
use Rattle.tc_beh.proofs.Marking.{bit_low, mark_more, marks_low, predicate_is_part, predicates_told}
use Rattle.tc_beh.proofs.looks.marks.Goals as goal

pub overflow_mul-marks : goal.overflow_mul-marks
overflow_mul-marks c =
    let (x, is) = c.requires in
    let low : c.loop-number.marks < 64 = marks_low x c.args.rules.now is (λ p. holds_by p (finds x c.args.looks.now)) c.loop-number.number c.loop-number.marks (c.loop-number.invariant.1 x is) in
    omega (arith, low)

pub holds-requires-clause-test : goal.holds-requires-clause-test
holds-requires-clause-test c =
    let (x, is) = c.requires in
    predicate_is_part c.args.rules.now (c.loop-number.number - 1) (see.test c.predicate-predicate.result.now) (c.predicate-predicate.ensures x.symbols is.rules)

pub overflow_add-marks : goal.overflow_add-marks
overflow_add-marks c =
    let (x, is) = c.requires in
    let low : c.loop-number.marks < 64 = marks_low x c.args.rules.now is (λ p. holds_by p (finds x c.args.looks.now)) c.loop-number.number c.loop-number.marks (c.loop-number.invariant.1 x is) in
    omega (arith, low, bit_low c.holds.result, c.from.ensures)

pub loop-number-preserved : goal.loop-number-preserved
loop-number-preserved c = (
  omega arith,
  λ x is.
      mark_more (λ p. holds_by p (finds x c.args.looks.now)) (predicates_of (told c.args.rules.now).sheet) c.loop-number.number (see.test c.predicate-predicate.result.now) c.holds.result c.loop-number.marks c.from.result
      c.loop-number-test.true (c.predicate-predicate.ensures x.symbols is.rules) (c.holds.ensures x is) c.from.ensures (c.loop-number.invariant.1 x is),
)

pub returns : goal.returns
returns c = λ x is.
    let none : c.loop-number.number ≡ 0 = omega (arith, c.loop-number-test.false) in
    let f = λ (p : Test). holds_by p (finds x c.args.looks.now) in
    c.loop-number.invariant.1 x is ∙ (ap (λ n. marks_of (map f (drop n (predicates_of (told c.args.rules.now).sheet)))) none ∙ ap (λ ps. marks_of (map f ps)) (predicates_told x c.args.rules.now is))
