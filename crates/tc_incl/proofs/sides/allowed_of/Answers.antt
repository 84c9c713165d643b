use Rattle.std.proofs.Common.{◌≡◌, ◌++◌, ◌∷◌, [], sym, ap, subst, length, ◌↔◌, arith}
use Rattle.std.proofs.lemmas.List.Elements.{All-same, All-push}
use Rattle.std.proofs.lemmas.Option.{slice_get_within}
use Rattle.tc_model.specs.Symbols.{fresh_name}
use Rattle.tc_sets.specs.Numbers.{Numbers, Has}
use Rattle.tc_incl.specs.Sides.{IsAllowed}
use Rattle.tc_incl.proofs.Taken.{allowed_more}
use Rattle.tc_incl.proofs.HandedOn.{no_value}
use Rattle.tc_incl.proofs.sides.allowed_of.Goals as goal

pub loop-symbol-init : goal.loop-symbol-init
loop-symbol-init c =
    let none : length c.new-allowed.result.items ≡ 0 = ap length c.new-allowed.ensures.items in (
      none,
      λ k d low. absurd (omega (arith, low, none)),
      λ x st a s at. absurd (omega (arith, slice_get_within c.new-allowed.result.items a s at, none)),
    )

pub loop-symbol-preserved : goal.loop-symbol-preserved
loop-symbol-preserved c = (
  omega (arith, c.in_ok-push.ensures.len, c.loop-symbol.invariant.0),
  All-same (λ (s : Numbers). s.size ≡ c.args.end) c.push.new.self.items (c.loop-symbol.allowed.items ++ c.in_ok-numbers.numbers ∷ []) c.in_ok-push.ensures.items
      (All-push (λ (s : Numbers). s.size ≡ c.args.end) c.loop-symbol.allowed.items c.in_ok-numbers.numbers c.loop-symbol.invariant.1 c.in_ok-numbers.ensures.size),
  λ x st.
      let place : c.loop-symbol.symbol ≡ length c.loop-symbol.allowed.items = sym c.loop-symbol.invariant.0 in
      allowed_more x c.args.alphabet.now c.loop-symbol.allowed.items c.push.new.self.items c.in_ok-numbers.numbers c.in_ok-push.ensures.items (c.loop-symbol.invariant.2 x st)
      (λ k. subst (λ n. Has c.in_ok-numbers.numbers k ↔ IsAllowed x (fresh_name c.args.alphabet.now n) k) place (subst (λ n. Has c.in_ok-numbers.numbers k ↔ IsAllowed x n k) c.in_ok-name.ensures.name (c.in_ok-numbers.ensures.numbers x st k))),
)

pub returns-in_err-name-clause-count : goal.returns-in_err-name-clause-count
returns-in_err-name-clause-count c = no_value c.from_residual.result _ _ c.from_residual.ensures.1

pub returns-in_err-name-clause-sizes : goal.returns-in_err-name-clause-sizes
returns-in_err-name-clause-sizes c = no_value c.from_residual.result _ _ c.from_residual.ensures.1

pub returns-in_err-name-clause-allowed : goal.returns-in_err-name-clause-allowed
returns-in_err-name-clause-allowed c = no_value c.from_residual.result _ _ c.from_residual.ensures.1

pub returns-in_err-numbers-clause-count : goal.returns-in_err-numbers-clause-count
returns-in_err-numbers-clause-count c = no_value c.from_residual-in_err-numbers.result _ _ c.from_residual-in_err-numbers.ensures.1

pub returns-in_err-numbers-clause-sizes : goal.returns-in_err-numbers-clause-sizes
returns-in_err-numbers-clause-sizes c = no_value c.from_residual-in_err-numbers.result _ _ c.from_residual-in_err-numbers.ensures.1

pub returns-in_err-numbers-clause-allowed : goal.returns-in_err-numbers-clause-allowed
returns-in_err-numbers-clause-allowed c = no_value c.from_residual-in_err-numbers.result _ _ c.from_residual-in_err-numbers.ensures.1

pub returns-in_err-push-clause-count : goal.returns-in_err-push-clause-count
returns-in_err-push-clause-count c = no_value c.from_residual-in_err-push.result _ _ c.from_residual-in_err-push.ensures.1

pub returns-in_err-push-clause-sizes : goal.returns-in_err-push-clause-sizes
returns-in_err-push-clause-sizes c = no_value c.from_residual-in_err-push.result _ _ c.from_residual-in_err-push.ensures.1

pub returns-in_err-push-clause-allowed : goal.returns-in_err-push-clause-allowed
returns-in_err-push-clause-allowed c = no_value c.from_residual-in_err-push.result _ _ c.from_residual-in_err-push.ensures.1
