use Rattle.std.proofs.Common.{◌+◌, refl, ap, sym, ◌∙◌}
use Rattle.tc_model.specs.XmlTextReferences.{is_digit}
use Rattle.tc_scan.proofs.Prefixes.{none_counted, one_counted, counted_to, counted_all, counted_within}
use borrow.Author.Count.{falls}
use Rattle.tc_scan.proofs.references.digits_len.Goals as goal

pub loop-byte-init : goal.loop-byte-init
loop-byte-init c = record { count = none_counted _; index = refl }

pub bounds-byte-items-byte-index : goal.bounds-byte-items-byte-index
bounds-byte-items-byte-index c = c.loop-byte-test.true

pub is_digit-requires-clause-lower_bound : goal.is_digit-requires-clause-lower_bound
is_digit-requires-clause-lower_bound c = c.requires.0

pub returns-then-not-is_digit-clause-count : goal.returns-then-not-is_digit-clause-count
returns-then-not-is_digit-clause-count c = counted_to (is_digit c.args.base) c.loop-byte.count c.loop-byte.byte-index c.args.text.now c.as_bytes-byte-items.result.now c.as_bytes-byte-items.ensures.value c.loop-byte-test.true (sym c.is_digit.ensures.value ∙ c.if-not-is_digit.true) c.loop-byte.invariant.count

pub returns-then-not-is_digit-clause-within : goal.returns-then-not-is_digit-clause-within
returns-then-not-is_digit-clause-within c = counted_within (is_digit c.args.base) c.loop-byte.count c.args.text.now (counted_to (is_digit c.args.base) c.loop-byte.count c.loop-byte.byte-index c.args.text.now c.as_bytes-byte-items.result.now c.as_bytes-byte-items.ensures.value c.loop-byte-test.true (sym c.is_digit.ensures.value ∙ c.if-not-is_digit.true) c.loop-byte.invariant.count)

pub loop-byte-smaller : goal.loop-byte-smaller
loop-byte-smaller c = falls _ c.loop-byte.byte-index c.loop-byte-test.true

pub loop-byte-preserved : goal.loop-byte-preserved
loop-byte-preserved c = record {
  count = one_counted (is_digit c.args.base) c.loop-byte.count c.loop-byte.byte-index c.args.text.now c.as_bytes-byte-items.result.now c.as_bytes-byte-items.ensures.value c.loop-byte-test.true (sym c.is_digit.ensures.value ∙ c.if-not-is_digit.false) c.loop-byte.invariant.count;
  index = ap (λ n. n + 1) c.loop-byte.invariant.index;
}

pub returns-clause-count : goal.returns-clause-count
returns-clause-count c = counted_all (is_digit c.args.base) c.loop-byte.count c.loop-byte.byte-index c.args.text.now c.as_bytes-byte-items.result.now c.as_bytes-byte-items.ensures.value c.loop-byte-test.false c.loop-byte.invariant.count

pub returns-clause-within : goal.returns-clause-within
returns-clause-within c = counted_within (is_digit c.args.base) c.loop-byte.count c.args.text.now (counted_all (is_digit c.args.base) c.loop-byte.count c.loop-byte.byte-index c.args.text.now c.as_bytes-byte-items.result.now c.as_bytes-byte-items.ensures.value c.loop-byte-test.false c.loop-byte.invariant.count)
