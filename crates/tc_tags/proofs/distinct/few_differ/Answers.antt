use Rattle.std.proofs.Common.{◌+◌, sym, subst, get_or}
use Rattle.std.specs.List.{AllByRecursion}
use Rattle.std.proofs.lemmas.List.{take_rest}
use Rattle.tc_tags.specs.Pairs.{Differs}
use Rattle.tc_tags.proofs.PairLaws.{differs_more, differs_after, none_differ, blank}
use Rattle.tc_tags.proofs.distinct.few_differ.Goals as goal

pub returns-then-occurs : goal.returns-then-occurs
returns-then-occurs c = λ h.
    let name = get_or c.args.names.now c.loop-at.at blank in
    let later = (differs_after c.args.names.now c.loop-at.at blank c.loop-at-test.true (c.loop-at.invariant.back h)).0 in
    c.if-occurs.ensures (subst (AllByRecursion (Differs name)) (sym (take_rest c.args.names.now (c.loop-at.at + 1))) later)

pub loop-at-preserved : goal.loop-at-preserved
loop-at-preserved c =
    let name = get_or c.args.names.now c.loop-at.at blank in
    let later = subst (AllByRecursion (Differs name)) (take_rest c.args.names.now (c.loop-at.at + 1)) c.if-occurs.ensures in
    record {
      forth = λ h. c.loop-at.invariant.forth (differs_more c.args.names.now c.loop-at.at blank c.loop-at-test.true later h);
      back = λ h. (differs_after c.args.names.now c.loop-at.at blank c.loop-at-test.true (c.loop-at.invariant.back h)).1;
    }

pub returns : goal.returns
returns c = c.loop-at.invariant.forth (none_differ c.args.names.now c.loop-at.at c.loop-at-test.false)
