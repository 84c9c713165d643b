use Rattle.std.proofs.Common.{◌∙◌, inl, inr, sym}
use Rattle.tc_model.specs.StateCounts.{PathUse}
use Rattle.tc_beh.specs.Above.{letter_of}
use Rattle.tc_beh.proofs.Hitting.{of_move, state_told, hit_told, lettered}
use Rattle.tc_beh.proofs.entries.are_alike_at.Goals as goal

pub returns-then-lead-clause-alike : goal.returns-then-lead-clause-alike
returns-then-lead-clause-alike c = λ e x g is lx known at. inr (c.are_alike.ensures.meant e x g is lx known at)

pub returns-else-lead-clause-alike : goal.returns-else-lead-clause-alike
returns-else-lead-clause-alike c = λ e x g is lx known at.
    let r = c.args.machine.now.rules in
    let w = letter_of c.args.node.letter in
    let b : PathUse = of_move g.path at.mode in
    inl (sym (hit_told x r is b g.state w) ∙ (sym (c.lead_at-lead.ensures.hits x.symbols b g.state is.rules (lettered x r is w lx) (state_told x r is c.args.spot.state b g.state at.state)) ∙ c.if-lead.false))
