use Rattle.std.proofs.Common.{arith, sym, ◌∙◌}
use Rattle.tc_path.proofs.PriorityLaws.{no_unsigned, unsigned_at, some_left, none_left, whole_below}
use Rattle.tc_path.proofs.priority.unsigned.Goals as goal

pub returns-then-not-is_empty-clause-read : goal.returns-then-not-is_empty-clause-read
returns-then-not-is_empty-clause-read c =
    no_unsigned c.args.text.now c.digits.result.0.now c.digits.result.1.now c.fraction_at.result.0.now c.fraction_at.result.1.now c.digits.ensures.front c.digits.ensures.back c.fraction_at.ensures.fraction
    (λ ends some w f. some_left c.after_white.result.now (sym c.is_empty.ensures ∙ c.if-not-is_empty.true) (c.after_white.ensures ∙ ends))

pub returns-then-places-eq0-clause-read : goal.returns-then-places-eq0-clause-read
returns-then-places-eq0-clause-read c =
    no_unsigned c.args.text.now c.digits.result.0.now c.digits.result.1.now c.fraction_at.result.0.now c.fraction_at.result.1.now c.digits.ensures.front c.digits.ensures.back c.fraction_at.ensures.fraction
    (λ ends some w f. omega (arith, c.if-places-eq0.true))

pub returns-then-whole-gt6-clause-read : goal.returns-then-whole-gt6-clause-read
returns-then-whole-gt6-clause-read c =
    no_unsigned c.args.text.now c.digits.result.0.now c.digits.result.1.now c.fraction_at.result.0.now c.fraction_at.result.1.now c.digits.ensures.front c.digits.ensures.back c.fraction_at.ensures.fraction
    (λ ends some w f. omega (arith, c.if-whole-gt6.true))

pub returns-then-fraction-gt4-clause-read : goal.returns-then-fraction-gt4-clause-read
returns-then-fraction-gt4-clause-read c =
    no_unsigned c.args.text.now c.digits.result.0.now c.digits.result.1.now c.fraction_at.result.0.now c.fraction_at.result.1.now c.digits.ensures.front c.digits.ensures.back c.fraction_at.ensures.fraction
    (λ ends some w f. omega (arith, c.if-fraction-gt4.true))

pub returns-clause-below : goal.returns-clause-below
returns-clause-below c = omega (arith, whole_below c.digits.result.0.now c.value_of.result c.digits.ensures.digits c.if-whole-gt6.false c.value_of.ensures.value, c.fraction_of.ensures.below)

pub returns-clause-read : goal.returns-clause-read
returns-clause-read c =
    unsigned_at c.args.text.now c.digits.result.0.now c.digits.result.1.now c.fraction_at.result.0.now c.fraction_at.result.1.now _ c.digits.ensures.front c.digits.ensures.back c.fraction_at.ensures.fraction
    (sym c.after_white.ensures ∙ none_left c.after_white.result.now (sym c.is_empty.ensures ∙ c.if-not-is_empty.false)) (omega (arith, c.if-places-eq0.false)) c.if-whole-gt6.false c.if-fraction-gt4.false
    (omega (arith, c.value_of.ensures.value, c.fraction_of.ensures.value))

pub returns-then-not-is_empty-clause-below : goal.returns-then-not-is_empty-clause-below
returns-then-not-is_empty-clause-below c = tt

pub returns-then-places-eq0-clause-below : goal.returns-then-places-eq0-clause-below
returns-then-places-eq0-clause-below c = tt

pub returns-then-whole-gt6-clause-below : goal.returns-then-whole-gt6-clause-below
returns-then-whole-gt6-clause-below c = tt

pub returns-then-fraction-gt4-clause-below : goal.returns-then-fraction-gt4-clause-below
returns-then-fraction-gt4-clause-below c = tt

pub value_of-requires-clause-digits : goal.value_of-requires-clause-digits
value_of-requires-clause-digits c = c.digits.ensures.digits

pub value_of-requires-clause-short : goal.value_of-requires-clause-short
value_of-requires-clause-short c = c.if-whole-gt6.false

pub fraction_of-requires-clause-digits : goal.fraction_of-requires-clause-digits
fraction_of-requires-clause-digits c = c.fraction_at.ensures.digits

pub fraction_of-requires-clause-short : goal.fraction_of-requires-clause-short
fraction_of-requires-clause-short c = c.if-fraction-gt4.false

pub overflow_add-places : goal.overflow_add-places
overflow_add-places c = omega arith

pub overflow_mul-result : goal.overflow_mul-result
overflow_mul-result c = omega (arith, whole_below c.digits.result.0.now c.value_of.result c.digits.ensures.digits c.if-whole-gt6.false c.value_of.ensures.value)

pub overflow_add-result : goal.overflow_add-result
overflow_add-result c = omega (arith, whole_below c.digits.result.0.now c.value_of.result c.digits.ensures.digits c.if-whole-gt6.false c.value_of.ensures.value, c.fraction_of.ensures.below)
