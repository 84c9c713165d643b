use Rattle.std.proofs.Common.{◌≡◌, ◌↔◌, ◌+◌, ◌++◌, ◌∷◌, [], sym, ap, subst, length, arith}
use Rattle.std.proofs.lemmas.List.Elements.{All-same, All-push}
use Rattle.std.proofs.lemmas.Option.{slice_get_within}
use Rattle.tc_auto.specs.Stands as held
use Rattle.tc_sets.specs.Numbers.{Numbers, Has}
use Rattle.tc_incl.specs.Sides.{IsAfterPattern}
use Rattle.tc_incl.proofs.Stepped.{patterns_more}
use Rattle.tc_incl.proofs.HandedOn.{no_value}
use Rattle.tc_incl.proofs.sides.Side.after_patterns.Goals as goal

pub loop-before-init : goal.loop-before-init
loop-before-init c =
    let none : length c.new-next.result.items ≡ 0 = ap length c.new-next.ensures.items in (
      none,
      λ k d low. absurd (omega (arith, low, none)),
      λ x st k s at. absurd (omega (arith, slice_get_within c.new-next.result.items k s at, none)),
    )

pub loop-before-preserved : goal.loop-before-preserved
loop-before-preserved c = (
  omega (arith, c.in_ok-push.ensures.len, c.loop-before.invariant.0),
  All-same (λ (s : Numbers). s.size ≡ held.states c.args.self.now.auto.now) c.push.new.self.items (c.loop-before.next.items ++ c.in_ok-ends.ends ∷ []) c.in_ok-push.ensures.items
      (All-push (λ (s : Numbers). s.size ≡ held.states c.args.self.now.auto.now) c.loop-before.next.items c.in_ok-ends.ends c.loop-before.invariant.1 c.in_ok-ends.ensures.size),
  λ x st.
      patterns_more x c.args.states.now c.loop-before.next.items c.push.new.self.items c.in_ok-ends.ends c.in_ok-push.ensures.items (c.loop-before.invariant.2 x st)
      (λ j. subst (λ n. Has c.in_ok-ends.ends j ↔ IsAfterPattern x c.args.states.now (n + 1) j) (sym c.loop-before.invariant.0) (c.in_ok-ends.ensures.numbers x st j)),
)

pub returns-in_err-ends-clause-count : goal.returns-in_err-ends-clause-count
returns-in_err-ends-clause-count c = no_value c.from_residual.result _ _ c.from_residual.ensures.1

pub returns-in_err-ends-clause-sizes : goal.returns-in_err-ends-clause-sizes
returns-in_err-ends-clause-sizes c = no_value c.from_residual.result _ _ c.from_residual.ensures.1

pub returns-in_err-ends-clause-numbers : goal.returns-in_err-ends-clause-numbers
returns-in_err-ends-clause-numbers c = no_value c.from_residual.result _ _ c.from_residual.ensures.1

pub returns-in_err-push-clause-count : goal.returns-in_err-push-clause-count
returns-in_err-push-clause-count c = no_value c.from_residual-in_err-push.result _ _ c.from_residual-in_err-push.ensures.1

pub returns-in_err-push-clause-sizes : goal.returns-in_err-push-clause-sizes
returns-in_err-push-clause-sizes c = no_value c.from_residual-in_err-push.result _ _ c.from_residual-in_err-push.ensures.1

pub returns-in_err-push-clause-numbers : goal.returns-in_err-push-clause-numbers
returns-in_err-push-clause-numbers c = no_value c.from_residual-in_err-push.result _ _ c.from_residual-in_err-push.ensures.1
