-- Whether a content accepts in one of some states, and what loops over numbers tell.
use Rattle.std.proofs.Common.{◌≡◌, ◌⊎◌, inl, inr, ℕ, zero, suc, ◌+◌, ◌-◌, ◌<◌, ◌≤◌, List, [], ◌∷◌, length, Some, refl, subst, slice_get, arith}
use Rattle.tc_auto.specs.Stands as held
use Rattle.tc_auto.specs.declared.auto.Auto.{Auto}
use Rattle.tc_hedge.proofs.Bounds.{patterns_of}
use Rattle.tc_model.specs.Grammars.{Grammar, ElementPattern, element_at}
use Rattle.tc_model.specs.States.{input, automaton, IsPart, a_content, first_state, IsAccepting}
use Rattle.tc_model.proofs.StatesExact.{sound}
use Rattle.tc_model.proofs.StatesParts.{next_first, accepting_of_part}
use Rattle.tc_sets.specs.Numbers.{Numbers, Has}
use Rattle.tc_steps.specs.Led.{IsReached}

some_at : {X : Type 0} (xs : List X) (k : ℕ) → k < length xs → (y : X) × (slice_get xs k ≡ Some y)
some_at [] k l = absurd (omega (arith, l))
some_at (y ∷ xs) zero l = (y, refl)
some_at (y ∷ xs) (suc k) l = some_at xs k (omega (arith, l))

pattern_at : (es : List ElementPattern) (k : ℕ) → 1 ≤ k → k ≤ length es → (e : ElementPattern) × (element_at es k ≡ Some e)
pattern_at es zero l h = absurd (omega (arith, l))
pattern_at es (suc k) l h = some_at es k (omega (arith, h))

pub some_pattern_of : (g : Grammar) (a : Auto) → held.Stands input g a → (k : ℕ) → 1 ≤ k → k ≤ length a.elements.now → (e : ElementPattern) × (element_at g.elements k ≡ Some e)
some_pattern_of g a st k low high = pattern_at g.elements k low (omega (arith, high, patterns_of input g a st))

module _ (g : Grammar) (states : Numbers) (number first end : ℕ) (begins : first ≡ first_state g input number) (ends : end ≡ first_state g input (suc number)) where
  pub reached_at : 1 ≤ number → number ≤ length g.elements → (state : ℕ) → first ≤ state → state < end → Has states state → IsAccepting g input state → IsReached g states number
  reached_at low high state from below there accepts =
      let (e, at) = pattern_at g.elements number low high in
      let part : IsPart g input number e.content = a_content at in
      let y : ℕ = state - first in
      let is : state ≡ first_state g input number + y = omega (arith, from, begins) in
      let small : y < (automaton e.content).count = omega (arith, next_first g input part, from, below, begins, ends) in
      (e, at, (y, subst (Has states) is there, accepting_of_part g input y state part small is accepts))

  pub not_reached : ((state : ℕ) → first ≤ state → state < end → Has states state → IsAccepting g input state → ⊥) → IsReached g states number → ⊥
  not_reached never (e, at, (y, there, accepts)) =
      let part : IsPart g input number e.content = a_content at in
      let q = sound e.content in
      let state : ℕ = first_state g input number + y in
      never state (omega (arith, begins)) (omega (arith, next_first g input part, q.accepted y accepts, ends)) there (number, e.content, y, part, refl, accepts)

-- what one number more tells, where none before it did
pub none_more : (P : ℕ → Type 0) (first n : ℕ) → ((k : ℕ) → first ≤ k → k < n → P k → ⊥) → (P n → ⊥) → (k : ℕ) → first ≤ k → k < n + 1 → P k → ⊥
none_more P first n before last k high low p = by (most k n low)
  where
    most : (k n : ℕ) → k < n + 1 → (k < n) ⊎ (k ≡ n)
    most k n l = grind arith

    by : (k < n) ⊎ (k ≡ n) → ⊥
    by (inl l) = before k high l p
    by (inr e) = last (subst P e p)
