use Rattle.std.proofs.Common.{refl, ap, sym, ◌∙◌, arith}
use Rattle.std.proofs.lemmas.Bool.{true≢false}
use Rattle.tc_base.specs.Characters.{is_char}
use Rattle.tc_scan.proofs.ReferenceLaws.{number_too_large, number_goes_on, digits_left, digit_here, number_whole, number_fits, longer_fits}
use borrow.Author.Count.{falls}
use Rattle.tc_scan.proofs.references.numbered.Goals as goal

pub returns-then-number-gt1114111 : goal.returns-then-number-gt1114111
returns-then-number-gt1114111 c =
    number_too_large c.args.base c.loop-byte.number c.in_ok-digit.digit c.loop-byte.byte-index c.args.digits.now c.as_bytes-byte-items.result.now c.requires.base c.loop-byte-test.true
    c.as_bytes-byte-items.ensures.value c.in_ok-digit.ensures.value.1 c.loop-byte.invariant.value c.if-number-gt1114111.true

pub loop-byte-init : goal.loop-byte-init
loop-byte-init c = record { value = refl; small = omega arith; all = c.requires.digits }

pub bounds-byte-items-byte-index : goal.bounds-byte-items-byte-index
bounds-byte-items-byte-index c = c.loop-byte-test.true

pub loop-byte-smaller : goal.loop-byte-smaller
loop-byte-smaller c = falls _ c.loop-byte.byte-index c.loop-byte-test.true

pub loop-byte-preserved : goal.loop-byte-preserved
loop-byte-preserved c = record {
  value = number_goes_on c.args.base c.loop-byte.number c.in_ok-digit.digit c.loop-byte.byte-index c.args.digits.now c.as_bytes-byte-items.result.now c.loop-byte-test.true c.as_bytes-byte-items.ensures.value c.in_ok-digit.ensures.value.1 c.loop-byte.invariant.value;
  small = c.if-number-gt1114111.false;
  all = digits_left c.args.base c.loop-byte.byte-index c.args.digits.now c.as_bytes-byte-items.result.now c.loop-byte-test.true c.as_bytes-byte-items.ensures.value c.loop-byte.invariant.all;
}

pub overflow_mul-number : goal.overflow_mul-number
overflow_mul-number c = record { fits = number_fits c.loop-byte.number c.args.base c.loop-byte.invariant.small c.requires.base.1 }

pub overflow_add-number : goal.overflow_add-number
overflow_add-number c = record { fits = longer_fits c.loop-byte.number c.args.base c.in_ok-digit.digit _ c.loop-byte.invariant.small c.requires.base.1 c.in_ok-digit.ensures.value.0 c.in_ok-digit.ensures.value.1 }

pub returns-in_err-digit : goal.returns-in_err-digit
returns-in_err-digit c =
    rw c.from_residual.ensures (λ fits. c.in_err-digit.ensures.value (digit_here c.args.base c.loop-byte.byte-index c.args.digits.now c.as_bytes-byte-items.result.now c.loop-byte-test.true c.as_bytes-byte-items.ensures.value c.loop-byte.invariant.all))

pub returns-then-is_char : goal.returns-then-is_char
returns-then-is_char c =
    let whole = number_whole c.args.base c.loop-byte.number c.loop-byte.byte-index c.args.digits.now c.as_bytes-byte-items.result.now c.as_bytes-byte-items.ensures.value c.loop-byte-test.false c.loop-byte.invariant.value in
    (c.in_ok-c.ensures.value.1 ∙ whole, sym c.is_char.ensures ∙ c.if-is_char.true)

pub returns-else-is_char : goal.returns-else-is_char
returns-else-is_char c = λ fits.
    let whole = number_whole c.args.base c.loop-byte.number c.loop-byte.byte-index c.args.digits.now c.as_bytes-byte-items.result.now c.as_bytes-byte-items.ensures.value c.loop-byte-test.false c.loop-byte.invariant.value in
    true≢false (sym fits ∙ (ap is_char (sym (c.in_ok-c.ensures.value.1 ∙ whole)) ∙ (sym c.is_char.ensures ∙ c.if-is_char.false)))
