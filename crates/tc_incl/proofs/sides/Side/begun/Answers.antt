use Rattle.std.proofs.Common.{◌≡◌, ◌∙◌, subst, ◌↔◌, length, arith}
use Rattle.tc_model.specs.States.{input}
use Rattle.tc_sets.specs.Numbers.{Has}
use Rattle.tc_incl.specs.Sides.{IsBegun}
use Rattle.tc_incl.proofs.Found.{begun_more}
use Rattle.tc_incl.proofs.HandedOn.{no_value}
use Rattle.tc_incl.proofs.sides.Side.begun.Goals as goal

pub loop-before-preserved : goal.loop-before-preserved
loop-before-preserved c = (
  c.add.ensures.size ∙ c.loop-before.invariant.0,
  λ x st. begun_more x c.loop-before.before c.first.result c.loop-before.states c.add.new.self (c.first.ensures.exact input x st) (c.loop-before.invariant.1 x st) c.add.ensures.numbers,
)

pub returns-clause-numbers : goal.returns-clause-numbers
returns-clause-numbers c = λ x st j.
    let count : c.loop-before.before ≡ length x.elements = omega (arith, c.loop-before.auto.before-end, c.loop-before-test.false, c.patterns-before-end.ensures.schema input x st) in
    subst (λ n. Has c.loop-before.states j ↔ IsBegun x n j) count (c.loop-before.invariant.1 x st j)

pub returns-clause-set : goal.returns-clause-set
returns-clause-set c = c.size-size.ensures.set

pub returns-in_err-states-clause-set : goal.returns-in_err-states-clause-set
returns-in_err-states-clause-set c = no_value c.from_residual.result _ _ c.from_residual.ensures.1

pub returns-in_err-states-clause-size : goal.returns-in_err-states-clause-size
returns-in_err-states-clause-size c = no_value c.from_residual.result _ _ c.from_residual.ensures.1

pub returns-in_err-states-clause-numbers : goal.returns-in_err-states-clause-numbers
returns-in_err-states-clause-numbers c = no_value c.from_residual.result _ _ c.from_residual.ensures.1
