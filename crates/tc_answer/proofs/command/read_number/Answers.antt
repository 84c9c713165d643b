use Rattle.std.proofs.Common.{◌≡◌, ◌≤◌, ◌+◌, ◌*◌, ◌-◌, ◌∙◌, sym, ap, arith, drop, get_or, refl, ◌&&◌, slice_get}
use Rattle.std.specs.Char.{is_ascii_digit}
use Rattle.std.specs.List.{list_all}
use Rattle.std.proofs.lemmas.Bool.{true≢false}
use Rattle.std.proofs.lemmas.List.{take_all}
use Rattle.std.proofs.lemmas.List.Folds.{list_all_more, list_all_at}
use Rattle.tc_answer.specs.Words.{value_from}
use Rattle.tc_answer.proofs.Numerals.{value_from-le, value_from-drop_more, value_from-end, first_differs, first_agrees}
use Rattle.tc_answer.proofs.command.read_number.Goals as goal

-- the value is above the greatest already, and the digits that are left don't make it less
pub returns-then-most-value : goal.returns-then-most-value
returns-then-most-value c = λ number spelled.
    let digits = c.as_bytes-digits.result.now in
    let i = c.loop-digit.digit-index in
    let value = c.loop-digit.value * 10 + (get_or digits i 0 - 48) in
    let whole : value_from 0 digits ≡ value_from value (drop (i + 1) digits) = sym c.loop-digit.invariant.value ∙ value_from-drop_more c.loop-digit.value digits i 0 c.loop-digit-test.true in
    let same : value_from 0 digits ≡ number = ap (value_from 0) c.as_bytes-digits.ensures.value ∙ spelled.value in
    omega (arith, whole, same, value_from-le value (drop (i + 1) digits), c.if-most-value.true, c.from.ensures, spelled.at_most)

pub loop-digit-init : goal.loop-digit-init
loop-digit-init c = record { value = refl; digits = refl; small = omega arith }

pub returns-then-not-is_ascii_digit : goal.returns-then-not-is_ascii_digit
returns-then-not-is_ascii_digit c = λ number spelled.
    let digits = c.as_bytes-digits.result.now in
    let some_other = list_all_at is_ascii_digit digits c.loop-digit.digit-index 0 c.loop-digit-test.true (sym c.is_ascii_digit.ensures.value ∙ c.if-not-is_ascii_digit.true) in
    true≢false (sym spelled.digits ∙ (ap (list_all is_ascii_digit) (sym c.as_bytes-digits.ensures.value) ∙ some_other))

pub overflow_mul-value : goal.overflow_mul-value
overflow_mul-value c = let most : c.args.most ≤ 65536 = c.requires in omega (arith, c.loop-digit.invariant.small, most)

pub loop-digit-preserved : goal.loop-digit-preserved
loop-digit-preserved c =
    let digits = c.as_bytes-digits.result.now in
    let i = c.loop-digit.digit-index in
    let before = c.loop-digit.invariant in
    record {
      value = ap (λ d. value_from (c.loop-digit.value * 10 + d) (drop (i + 1) digits)) c.from.ensures ∙ (sym (value_from-drop_more c.loop-digit.value digits i 0 c.loop-digit-test.true) ∙ before.value);
      digits = list_all_more is_ascii_digit digits i 0 c.loop-digit-test.true ∙ (ap (λ b. b && is_ascii_digit (get_or digits i 0)) before.digits ∙ (sym c.is_ascii_digit.ensures.value ∙ c.if-not-is_ascii_digit.false));
      small = c.if-most-value.false;
    }

pub returns-then-value-eq0 : goal.returns-then-value-eq0
returns-then-value-eq0 c = λ number spelled.
    let whole = sym c.loop-digit.invariant.value ∙ value_from-end c.loop-digit.value c.as_bytes-digits.result.now c.loop-digit.digit-index c.loop-digit-test.false in
    let same : number ≡ c.loop-digit.value = sym spelled.value ∙ (ap (value_from 0) (sym c.as_bytes-digits.ensures.value) ∙ whole) in
    omega (arith, same, c.if-value-eq0.true, spelled.at_least)

pub returns : goal.returns
returns c =
    let digits = c.as_bytes-digits.result.now in
    let word = c.as_bytes-digits.ensures.value in
    let i = c.loop-digit.digit-index in
    let whole = sym c.loop-digit.invariant.value ∙ value_from-end c.loop-digit.value digits i c.loop-digit-test.false in
    record {
      digits = ap (list_all is_ascii_digit) (sym word ∙ sym (take_all i digits c.loop-digit-test.false)) ∙ c.loop-digit.invariant.digits;
      no_leading_zero = λ first. first_differs c.first.result _ digits c.eq.result c.first.ensures.value c.eq.ensures c.if-eq.false (ap (λ w. slice_get w 0) word ∙ first);
      value = ap (value_from 0) (sym word) ∙ whole;
      at_least = omega (arith, c.if-value-eq0.false);
      at_most = c.loop-digit.invariant.small;
    }

pub returns-then-eq : goal.returns-then-eq
returns-then-eq c = λ number spelled.
    let digits = c.as_bytes-digits.result.now in
    spelled.no_leading_zero (ap (λ w. slice_get w 0) (sym c.as_bytes-digits.ensures.value) ∙ first_agrees c.first.result _ digits c.eq.result c.first.ensures.value c.eq.ensures c.if-eq.true)
