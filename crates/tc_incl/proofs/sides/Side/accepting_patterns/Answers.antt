use Rattle.std.proofs.Common.{inl, inr, ◌+◌, ap, ◌∙◌, sym, subst, arith}
use Rattle.std.proofs.lemmas.Bool.{true≢false}
use Rattle.tc_sets.specs.Numbers.{Numbers, Has}
use Rattle.tc_incl.specs.Sets.{IsFound}
use Rattle.tc_incl.specs.Sides.{IsTaken}
use Rattle.tc_incl.proofs.Found.{found_none, found_more, found_same, found_all}
use Rattle.tc_incl.proofs.Taken.{no_pattern_of_none, allowed_low}
use Rattle.tc_incl.proofs.sides.Side.accepting_patterns.Goals.{then-is_taken, else-is_taken}
use Rattle.tc_incl.proofs.HandedOn.{no_value}
use Rattle.tc_incl.proofs.sides.Side.accepting_patterns.Goals as goal

pub loop-before-init : goal.loop-before-init
loop-before-init c = (
  c.in_ok-taken.ensures.size,
  c.in_ok-taken.ensures.numbers 0,
  λ x st. found_none (IsTaken x c.args.states.now) c.in_ok-taken.taken c.in_ok-taken.ensures.numbers (λ (e, at, inside). no_pattern_of_none x e at),
)

pub loop-before-preserved : goal.loop-before-preserved
loop-before-preserved c =
    elim c.if-is_taken.branch [
      | then-is_taken w ↦ (
        ap (λ (s : Numbers). s.size) w.taken-is ∙ (w.add.ensures.size ∙ c.loop-before.invariant.0),
        subst (λ (s : Numbers). Has s 0 → ⊥) (sym w.taken-is) (λ h. elim ((w.add.ensures.numbers 0).0 h) [ inl old ↦ c.loop-before.invariant.1 old | inr e ↦ omega (arith, e) ]),
        λ x st.
            subst (λ (s : Numbers). IsFound (IsTaken x c.args.states.now) (c.loop-before.before + 1) s) (sym w.taken-is)
            (found_more (IsTaken x c.args.states.now) c.loop-before.before c.loop-before.taken w.add.new.self (c.loop-before.invariant.2 x st) ((c.is_taken.ensures x st).0 w.if-is_taken.true) w.add.ensures.numbers),
      )
      | else-is_taken w ↦ (
        ap (λ (s : Numbers). s.size) w.taken-is ∙ c.loop-before.invariant.0,
        subst (λ (s : Numbers). Has s 0 → ⊥) (sym w.taken-is) c.loop-before.invariant.1,
        λ x st.
            subst (λ (s : Numbers). IsFound (IsTaken x c.args.states.now) (c.loop-before.before + 1) s) (sym w.taken-is)
            (found_same (IsTaken x c.args.states.now) c.loop-before.before c.loop-before.taken (c.loop-before.invariant.2 x st) (λ b. true≢false (sym ((c.is_taken.ensures x st).1 b) ∙ w.if-is_taken.false))),
      )
    ]

pub returns-clause-numbers : goal.returns-clause-numbers
returns-clause-numbers c = λ x st.
    found_all (IsTaken x c.args.states.now) c.loop-before.before c.loop-before.taken (c.loop-before.invariant.2 x st)
    (λ k (e, at, inside). allowed_low x c.args.self.now.auto.now st c.loop-before.before (omega (arith, c.loop-before-test.false, c.patterns-before-end.ensures.here)) k e at)

pub returns-in_err-taken-clause-size : goal.returns-in_err-taken-clause-size
returns-in_err-taken-clause-size c = no_value c.from_residual.result _ _ c.from_residual.ensures.1

pub returns-in_err-taken-clause-from_one : goal.returns-in_err-taken-clause-from_one
returns-in_err-taken-clause-from_one c = no_value c.from_residual.result _ _ c.from_residual.ensures.1

pub returns-in_err-taken-clause-numbers : goal.returns-in_err-taken-clause-numbers
returns-in_err-taken-clause-numbers c = no_value c.from_residual.result _ _ c.from_residual.ensures.1
