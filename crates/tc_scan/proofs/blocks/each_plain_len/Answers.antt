use Rattle.std.proofs.Common.{◌+◌, refl, ap, sym, ◌∙◌}
use Rattle.tc_model.specs.XmlTextReferences.{is_plain}
use Rattle.tc_scan.proofs.Prefixes.{none_counted, one_counted, counted_to, counted_all, counted_within}
use Rattle.tc_scan.proofs.blocks.each_plain_len.Goals as goal

pub loop-byte-init : goal.loop-byte-init
loop-byte-init c = record { count = none_counted _; index = refl }

pub returns-then-not-is_no_markup-clause-count : goal.returns-then-not-is_no_markup-clause-count
returns-then-not-is_no_markup-clause-count c =
    counted_to is_plain c.loop-byte.count c.loop-byte.byte-index c.args.bytes.now c.args.bytes.now refl c.loop-byte-test.true (sym c.is_no_markup.ensures ∙ c.if-not-is_no_markup.true) c.loop-byte.invariant.count

pub returns-then-not-is_no_markup-clause-within : goal.returns-then-not-is_no_markup-clause-within
returns-then-not-is_no_markup-clause-within c = counted_within is_plain c.loop-byte.count c.args.bytes.now (returns-then-not-is_no_markup-clause-count c)

pub loop-byte-preserved : goal.loop-byte-preserved
loop-byte-preserved c = record {
  count = one_counted is_plain c.loop-byte.count c.loop-byte.byte-index c.args.bytes.now c.args.bytes.now refl c.loop-byte-test.true (sym c.is_no_markup.ensures ∙ c.if-not-is_no_markup.false) c.loop-byte.invariant.count;
  index = ap (λ n. n + 1) c.loop-byte.invariant.index;
}

pub returns-clause-count : goal.returns-clause-count
returns-clause-count c = counted_all is_plain c.loop-byte.count c.loop-byte.byte-index c.args.bytes.now c.args.bytes.now refl c.loop-byte-test.false c.loop-byte.invariant.count

pub returns-clause-within : goal.returns-clause-within
returns-clause-within c = counted_within is_plain c.loop-byte.count c.args.bytes.now (returns-clause-count c)
