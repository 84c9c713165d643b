use Rattle.std.proofs.Common.{refl, arith}
use Rattle.std.proofs.lemmas.Grind.{common_steps}
use Rattle.tc_base.specs.Characters.{is_white}
use Rattle.tc_scan.proofs.Prefixes.{none_counted, counted_all, counted_within}
use borrow.Author.Count.{falls}
use Rattle.tc_scan.proofs.front.white_len.Goals as goal

pub returns-then-not-matches-clause-count : goal.returns-then-not-matches-clause-count
returns-then-not-matches-clause-count c = grind (arith, common_steps)

pub loop-byte-init : goal.loop-byte-init
loop-byte-init c = record { count = none_counted _; index = refl }

pub bounds-byte-items-byte-index : goal.bounds-byte-items-byte-index
bounds-byte-items-byte-index c = c.loop-byte-test.true

pub returns-then-not-matches-clause-within : goal.returns-then-not-matches-clause-within
returns-then-not-matches-clause-within c = counted_within is_white c.loop-byte.count c.args.text.now (returns-then-not-matches-clause-count c)

pub loop-byte-smaller : goal.loop-byte-smaller
loop-byte-smaller c = falls _ c.loop-byte.byte-index c.loop-byte-test.true

pub returns-clause-count : goal.returns-clause-count
returns-clause-count c = counted_all is_white c.loop-byte.count c.loop-byte.byte-index c.args.text.now c.as_bytes-byte-items.result.now c.as_bytes-byte-items.ensures.value c.loop-byte-test.false c.loop-byte.invariant.count

pub returns-clause-within : goal.returns-clause-within
returns-clause-within c = counted_within is_white c.loop-byte.count c.args.text.now (returns-clause-count c)
