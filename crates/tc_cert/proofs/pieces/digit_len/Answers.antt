use Rattle.std.proofs.Common.{refl, ap, sym, ◌∙◌, ◌+◌, arith}
use Rattle.std.proofs.lemmas.List.Sums.{prefix_len-drop_all}
use Rattle.std.specs.Char.{is_ascii_digit}
use Rattle.tc_cert.proofs.Numbers.{prefix_more, prefix_none}
use Rattle.tc_cert.proofs.pieces.digit_len.Goals as goal

pub loop-byte-init : goal.loop-byte-init
loop-byte-init c = record { count = omega arith; index = refl }

pub returns-then-not-is_ascii_digit-clause-count : goal.returns-then-not-is_ascii_digit-clause-count
returns-then-not-is_ascii_digit-clause-count c = omega (arith, c.loop-byte.invariant.count, prefix_none c.args.bytes.now c.loop-byte.byte-index c.loop-byte-test.true (sym c.is_ascii_digit.ensures.value ∙ c.if-not-is_ascii_digit.true))

pub loop-byte-preserved : goal.loop-byte-preserved
loop-byte-preserved c = record {
  count = omega (arith, c.loop-byte.invariant.count, prefix_more c.args.bytes.now c.loop-byte.byte-index c.loop-byte-test.true (sym c.is_ascii_digit.ensures.value ∙ c.if-not-is_ascii_digit.false));
  index = ap (λ k. k + 1) c.loop-byte.invariant.index;
}

pub returns-clause-count : goal.returns-clause-count
returns-clause-count c = omega (arith, c.loop-byte.invariant.count, prefix_len-drop_all is_ascii_digit c.args.bytes.now c.loop-byte.byte-index c.loop-byte-test.false)

pub returns-clause-within : goal.returns-clause-within
returns-clause-within c = omega (arith, c.loop-byte.invariant.index, c.loop-byte.auto.byte-index-end)
