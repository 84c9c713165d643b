use Rattle.std.proofs.Common.{arith, refl, ap, sym, ◌∙◌}
use Rattle.tc_cert.proofs.Numbers.{too_great, digit_there, value_more}
use Rattle.std.proofs.lemmas.List.{drop_all}
use Rattle.std.specs.Str.Parse.{digits_value_after}
use Rattle.tc_cert.proofs.pieces.value_of.Goals as goal

pub returns-then-value-gt4294967295 : goal.returns-then-value-gt4294967295
returns-then-value-gt4294967295 c = too_great c.loop-digit.value _ c.args.digits.now c.loop-digit.digit-index c.loop-digit-test.true c.loop-digit.invariant.digits c.loop-digit.invariant.value (omega (arith, c.from.ensures, c.if-value-gt4294967295.true))

pub loop-digit-init : goal.loop-digit-init
loop-digit-init c = record { value = refl; digits = c.requires; small = omega arith }

pub loop-digit-preserved : goal.loop-digit-preserved
loop-digit-preserved c =
    let more = value_more c.loop-digit.value _ c.from.result c.args.digits.now c.loop-digit.digit-index c.loop-digit-test.true c.loop-digit.invariant.digits c.loop-digit.invariant.value c.from.ensures in
    record { value = more.0; digits = more.1; small = c.if-value-gt4294967295.false }

pub returns : goal.returns
returns c = sym (ap (digits_value_after 10 c.loop-digit.value) (drop_all c.loop-digit.digit-index c.args.digits.now c.loop-digit-test.false)) ∙ c.loop-digit.invariant.value

pub overflow_mul-value : goal.overflow_mul-value
overflow_mul-value c = omega (arith, c.loop-digit.invariant.small)

pub overflow_sub-digit : goal.overflow_sub-digit
overflow_sub-digit c = (digit_there c.args.digits.now c.loop-digit.digit-index c.loop-digit-test.true c.loop-digit.invariant.digits).0

pub overflow_add-value : goal.overflow_add-value
overflow_add-value c = omega (arith, c.loop-digit.invariant.small, c.from.ensures, (digit_there c.args.digits.now c.loop-digit.digit-index c.loop-digit-test.true c.loop-digit.invariant.digits).1)

pub overflow_cast-result : goal.overflow_cast-result
overflow_cast-result c = omega (arith, c.loop-digit.invariant.small)
