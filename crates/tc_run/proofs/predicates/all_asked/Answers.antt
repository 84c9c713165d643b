use Rattle.std.proofs.Common.{◌≡◌, ◌+◌, sym, subst, length, arith}
use Rattle.tc_model.specs.Views as see
use Rattle.tc_run.specs.Predicates.{AreAsked}
use Rattle.tc_run.specs.Running.{predicates_by, symbols_by}
use Rattle.tc_run.proofs.Asking.{one_more_asked}
use Rattle.tc_run.proofs.Marking.{predicate_is_part}
use Rattle.tc_run.proofs.predicates.all_asked.Goals as goal

pub asked_by-requires-clause-predicate : goal.asked_by-requires-clause-predicate
asked_by-requires-clause-predicate c =
    let r = c.args.runner.now in
    predicate_is_part r c.loop-number.number (see.test c.predicate.result.now) (c.predicate.ensures (symbols_by r) c.requires)

pub loop-number-preserved : goal.loop-number-preserved
loop-number-preserved c =
    let r = c.args.runner.now in
    subst (AreAsked r (c.loop-number.number + 1)) (sym c.in_ok-push.ensures.items)
    (one_more_asked r c.loop-number.number c.loop-number.asked.items c.asked_by.result (see.test c.predicate.result.now) c.loop-number.invariant (c.predicate.ensures (symbols_by r) c.requires) c.asked_by.ensures)

pub returns : goal.returns
returns c =
    let r = c.args.runner.now in
    let done : c.loop-number.number ≡ length (predicates_by r) = omega (arith, c.loop-number.auto.number-end, c.loop-number-test.false, c.predicates-number-end.ensures (symbols_by r) c.requires) in
    subst (AreAsked r (length (predicates_by r))) (sym c.into_bump_slice.ensures) (subst (λ n. AreAsked r n c.loop-number.asked.items) done c.loop-number.invariant)
