use Rattle.std.proofs.Common.{sym, ap, length, arith}
use Rattle.std.proofs.lemmas.Option.{slice_get_within}
use Rattle.tc_beh.specs.AlikeSymbols.{asked_tests, key}
use Rattle.tc_beh.proofs.FirstAlike.{none_known}
use Rattle.tc_beh.proofs.Steps.{no_value}
use Rattle.tc_beh.proofs.alike.firsts_of.Goals as goal

pub loop-number-init : goal.loop-number-init
loop-number-init c = (
  ap length c.new-firsts.ensures.items,
  λ x is same. (
    none_known (key x (asked_tests c.args.asked.now)) c.new-known.result c.new-known.ensures.empty,
    λ a first at. let within = slice_get_within c.new-firsts.result.items a first at in absurd (omega (arith, within, ap length c.new-firsts.ensures.items)),
  ),
)

pub loop-number-preserved : goal.loop-number-preserved
loop-number-preserved c = (
  c.in_ok-put_first.ensures.count,
  λ x is same. c.in_ok-put_first.ensures.firsts (key x (asked_tests c.args.asked.now)) (c.loop-number.invariant.1 x is same) (sym (c.in_ok-bits.ensures x is same)),
)

pub returns-clause-firsts : goal.returns-clause-firsts
returns-clause-firsts c = λ x is same a first at. (c.loop-number.invariant.1 x is same).1 a first at

pub returns-in_err-bits-clause-count : goal.returns-in_err-bits-clause-count
returns-in_err-bits-clause-count c = no_value c.from_residual.result _ _ c.from_residual.ensures.1

pub returns-in_err-bits-clause-firsts : goal.returns-in_err-bits-clause-firsts
returns-in_err-bits-clause-firsts c = no_value c.from_residual.result _ _ c.from_residual.ensures.1

pub returns-in_err-put_first-clause-count : goal.returns-in_err-put_first-clause-count
returns-in_err-put_first-clause-count c = no_value c.from_residual-in_err-put_first.result _ _ c.from_residual-in_err-put_first.ensures.1

pub returns-in_err-put_first-clause-firsts : goal.returns-in_err-put_first-clause-firsts
returns-in_err-put_first-clause-firsts c = no_value c.from_residual-in_err-put_first.result _ _ c.from_residual-in_err-put_first.ensures.1
