use Rattle.std.proofs.Common.{arith}
use Rattle.tc_settle.proofs.levels.all_far.Goals as goal

pub loop-hedge-init : goal.loop-hedge-init
loop-hedge-init g c = c.requires

pub returns-then-hedge-len-clause-whole : goal.returns-then-hedge-len-clause-whole
returns-then-hedge-len-clause-whole g c =
    let far = c.loop-hedge.invariant in
    record {
      kept = far.kept;
      few = far.few;
      done = record {
        none = far.done.none;
        text = far.done.text;
        wraps = λ h low. far.before.wraps h (omega (arith, low, far.kept.hedge_count, c.if-hedge-len.true, c.len.ensures));
        appends = λ h t low last. far.before.appends h t (omega (arith, low, far.kept.hedge_count, c.if-hedge-len.true, c.len.ensures)) last;
      };
    }

pub returns-clause-whole : goal.returns-clause-whole
returns-clause-whole g c =
    let far = c.loop-hedge.invariant in
    record {
      kept = far.kept;
      few = far.few;
      done = record {
        none = far.done.none;
        text = far.done.text;
        wraps = λ h low. far.before.wraps h (omega (arith, low, far.few.hedges, c.loop-hedge-test.false));
        appends = λ h t low last. far.before.appends h t (omega (arith, low, far.few.hedges, c.loop-hedge-test.false)) last;
      };
    }
