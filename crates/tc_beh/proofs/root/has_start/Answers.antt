use Rattle.std.proofs.Common.{◌≤◌, length, sym, ◌∙◌, arith}
use Rattle.tc_model.specs.States.{is_alternative}
use Rattle.tc_beh.proofs.Admitting.{some_passes, none_passes}
use Rattle.tc_beh.proofs.root.has_start.Goals as goal

pub returns-then-starts : goal.returns-then-starts
returns-then-starts c = λ side x st. sym (some_passes (λ k. is_alternative k x.start) c.args.patterns.now c.loop-before.before (c.is_set.ensures.0 c.if-is_set.true) (sym (c.starts.ensures side x st) ∙ c.if-starts.true))

pub returns : goal.returns
returns c = λ side x st.
    let all : length c.args.patterns.now ≤ c.loop-before.before = omega (arith, c.loop-before-test.false, c.patterns-before-end.ensures.here, c.requires) in
    sym (none_passes (λ k. is_alternative k x.start) c.args.patterns.now c.loop-before.before all (c.loop-before.invariant side x st))
