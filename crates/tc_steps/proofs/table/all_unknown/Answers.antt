use Rattle.std.proofs.Common.{arith, ap, length, length-append, ◌∷◌, []}
use Rattle.tc_steps.proofs.ClassLaws.{sized_more, unknown_more}
use Rattle.tc_steps.proofs.FailedLaws.{no_value}
use Rattle.tc_steps.proofs.table.all_unknown.Goals as goal

pub loop-symbol-preserved : goal.loop-symbol-preserved
loop-symbol-preserved c =
    let cs = c.loop-symbol.classes.items in
    let class = c.in_ok-class.class in
    let pushed = c.in_ok-push.ensures.items in
    let long = ap length pushed in
    let many = c.loop-symbol.invariant.0 in (
      omega (arith, long, many, length-append cs (class ∷ [])),
      sized_more c.args.automaton.now cs _ class pushed c.loop-symbol.invariant.1 (record { numbers = c.in_ok-class.ensures.numbers; firsts = c.in_ok-class.ensures.firsts }),
      unknown_more cs _ class pushed c.loop-symbol.invariant.2 c.in_ok-class.ensures.unknown,
    )

pub returns-in_err-end-clause-count : goal.returns-in_err-end-clause-count
returns-in_err-end-clause-count c = no_value c.from_residual.result _ _ c.from_residual.ensures.1

pub returns-in_err-end-clause-sized : goal.returns-in_err-end-clause-sized
returns-in_err-end-clause-sized c = no_value c.from_residual.result _ _ c.from_residual.ensures.1

pub returns-in_err-end-clause-unknown : goal.returns-in_err-end-clause-unknown
returns-in_err-end-clause-unknown c = no_value c.from_residual.result _ _ c.from_residual.ensures.1

pub returns-in_err-class-clause-count : goal.returns-in_err-class-clause-count
returns-in_err-class-clause-count c = no_value c.from_residual-in_err-class.result _ _ c.from_residual-in_err-class.ensures.1

pub returns-in_err-class-clause-sized : goal.returns-in_err-class-clause-sized
returns-in_err-class-clause-sized c = no_value c.from_residual-in_err-class.result _ _ c.from_residual-in_err-class.ensures.1

pub returns-in_err-class-clause-unknown : goal.returns-in_err-class-clause-unknown
returns-in_err-class-clause-unknown c = no_value c.from_residual-in_err-class.result _ _ c.from_residual-in_err-class.ensures.1

pub returns-in_err-push-clause-count : goal.returns-in_err-push-clause-count
returns-in_err-push-clause-count c = no_value c.from_residual-in_err-push.result _ _ c.from_residual-in_err-push.ensures.1

pub returns-in_err-push-clause-sized : goal.returns-in_err-push-clause-sized
returns-in_err-push-clause-sized c = no_value c.from_residual-in_err-push.result _ _ c.from_residual-in_err-push.ensures.1

pub returns-in_err-push-clause-unknown : goal.returns-in_err-push-clause-unknown
returns-in_err-push-clause-unknown c = no_value c.from_residual-in_err-push.result _ _ c.from_residual-in_err-push.ensures.1

pub returns-clause-sized : goal.returns-clause-sized
returns-clause-sized c = c.loop-symbol.invariant.1

pub returns-clause-unknown : goal.returns-clause-unknown
returns-clause-unknown c = c.loop-symbol.invariant.2
