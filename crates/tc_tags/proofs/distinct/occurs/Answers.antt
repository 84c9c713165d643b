use Rattle.std.proofs.Common.{◌∙◌, sym}
use Rattle.std.proofs.lemmas.Bool.{true≢false}
use Rattle.tc_tags.specs.Pairs.{Differs}
use Rattle.tc_tags.proofs.PairLaws.{all_after, all_more, all_none, blank}
use Rattle.tc_tags.proofs.distinct.occurs.Goals as goal

pub returns-then-eq : goal.returns-then-eq
returns-then-eq c = λ h.
    true≢false (c.if-eq.ensures ∙ (all_after (Differs c.args.name.now) c.args.names.now c.loop-other.other-index blank c.loop-other-test.true (c.loop-other.invariant.back h)).0)

pub loop-other-preserved : goal.loop-other-preserved
loop-other-preserved c = record {
  forth = λ h. c.loop-other.invariant.forth (all_more (Differs c.args.name.now) c.args.names.now c.loop-other.other-index blank c.loop-other-test.true (sym c.if-eq.ensures) h);
  back = λ h. (all_after (Differs c.args.name.now) c.args.names.now c.loop-other.other-index blank c.loop-other-test.true (c.loop-other.invariant.back h)).1;
}

pub returns : goal.returns
returns c = c.loop-other.invariant.forth (all_none (Differs c.args.name.now) c.args.names.now c.loop-other.other-index c.loop-other-test.false)
