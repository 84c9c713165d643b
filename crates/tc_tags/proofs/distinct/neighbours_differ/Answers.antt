use Rattle.std.proofs.Common.{◌∙◌, sym}
use Rattle.std.proofs.lemmas.Bool.{true≢false}
use Rattle.tc_tags.proofs.PairLaws.{within_pairs, apart_more, apart_after, apart_end, blank}
use Rattle.tc_tags.proofs.distinct.neighbours_differ.Goals as goal

pub returns-then-eq : goal.returns-then-eq
returns-then-eq c = λ h.
    true≢false (c.if-eq.ensures ∙ (apart_after c.args.names.now c.loop-at.at blank (within_pairs c.loop-at.at _ _ c.loop-at-test.true c.saturating_sub-at-end.ensures) (c.loop-at.invariant.back h)).0)

pub loop-at-preserved : goal.loop-at-preserved
loop-at-preserved c =
    let within = within_pairs c.loop-at.at _ _ c.loop-at-test.true c.saturating_sub-at-end.ensures in
    record {
      forth = λ h. c.loop-at.invariant.forth (apart_more c.args.names.now c.loop-at.at blank within (sym c.if-eq.ensures) h);
      back = λ h. (apart_after c.args.names.now c.loop-at.at blank within (c.loop-at.invariant.back h)).1;
    }

pub returns : goal.returns
returns c = c.loop-at.invariant.forth (apart_end c.args.names.now c.loop-at.at _ c.loop-at-test.false c.saturating_sub-at-end.ensures)
