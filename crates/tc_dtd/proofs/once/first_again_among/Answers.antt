use Rattle.tc_dtd.proofs.OnceLaws.{none_alike, not_new, is_old, keys_more, found_again, all_apart}
use Rattle.tc_dtd.proofs.once.first_again_among.Goals as goal

pub loop-one-init : goal.loop-one-init
loop-one-init c = record { keys = c.requires; differ = none_alike c.args.seen.now.keys c.requires }

pub returns-then-not-is_new : goal.returns-then-not-is_new
returns-then-not-is_new c =
    found_again c.args.found.now c.loop-one.one-index _ c.loop-one.seen.keys c.loop-one-test.true c.loop-one.invariant.keys c.loop-one.invariant.differ (is_old _ c.in_ok-is_new.is_new c.in_ok-is_new.ensures.added c.if-not-is_new.true)

pub loop-one-preserved : goal.loop-one-preserved
loop-one-preserved c = record {
  keys =
      keys_more c.args.found.now c.loop-one.one-index _ c.loop-one.seen.keys c.insert.new.self.keys c.loop-one-test.true c.loop-one.invariant.keys
      (not_new _ c.in_ok-is_new.is_new c.in_ok-is_new.ensures.added c.if-not-is_new.false) c.in_ok-is_new.ensures.keys;
  differ = c.in_ok-is_new.ensures.unique;
}

pub returns : goal.returns
returns c = all_apart c.args.found.now c.loop-one.one-index c.loop-one.seen.keys c.loop-one-test.false c.loop-one.invariant.keys c.loop-one.invariant.differ
