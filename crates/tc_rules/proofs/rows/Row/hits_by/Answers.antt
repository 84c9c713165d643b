use Rattle.tc_rules.specs.Rows.{state}
use Rattle.tc_rules.specs.Steps.{both_states, ends_at}
use Rattle.tc_rules.proofs.HitRows.{any_here, any_later, any_none}
use Rattle.tc_rules.proofs.rows.Row.hits_by.Goals as goal

pub returns-then-ends : goal.returns-then-ends
returns-then-ends c =
    any_here (ends_at (state c.args.ends.now c.args.self.now) (both_states (state c.args.ends.now c.args.fits.now) (state c.args.ends.now c.args.marked.now))) c.args.ending.now c.loop-alternative.alternative-index _ c.ends.result _ c.loop-alternative-test.true c.ends.ensures c.loop-alternative.invariant c.if-ends.true

pub loop-alternative-preserved : goal.loop-alternative-preserved
loop-alternative-preserved c =
    any_later (ends_at (state c.args.ends.now c.args.self.now) (both_states (state c.args.ends.now c.args.fits.now) (state c.args.ends.now c.args.marked.now))) c.args.ending.now c.loop-alternative.alternative-index _ c.ends.result _ c.loop-alternative-test.true c.ends.ensures c.loop-alternative.invariant c.if-ends.false

pub returns : goal.returns
returns c =
    any_none (ends_at (state c.args.ends.now c.args.self.now) (both_states (state c.args.ends.now c.args.fits.now) (state c.args.ends.now c.args.marked.now))) c.args.ending.now c.loop-alternative.alternative-index _ c.loop-alternative-test.false c.loop-alternative.invariant
