-- Whether a content accepts in one of some states, and whether an element pattern may start.
use Rattle.std.proofs.Common.{◌≡◌, ◌↔◌, ◌⊎◌, inl, inr, ℕ, zero, suc, ◌+◌, ◌-◌, ◌<◌, ◌≤◌, List, [], ◌∷◌, ◌++◌, ◌||◌, length, Bool, true, false, Some, refl, sym, ap, subst, ◌∙◌, slice_get, arith}
use Rattle.std.specs.List.{list_any}
use Rattle.std.proofs.lemmas.Option.{same_Some}
use Rattle.tc_alpha.proofs.Members.{Has as HasItem, has_from_contains, contains_from_has}
use Rattle.tc_auto.specs.Stands as held
use Rattle.tc_auto.specs.declared.auto.Auto.{Auto}
use Rattle.tc_hedge.proofs.Bounds.{patterns_of}
use Rattle.tc_model.specs.Grammars.{Grammar, ElementPattern, element_at}
use Rattle.tc_model.specs.States.{input, automaton, IsPart, a_content, first_state, IsAccepting, is_alternative}
use Rattle.tc_model.proofs.StatesExact.{sound}
use Rattle.tc_model.proofs.StatesParts.{next_first, accepting_of_part}
use Rattle.tc_rows.proofs.Inside.{number_within, pattern_at}
use Rattle.tc_model.specs.Symbols.{Mention, fresh_name}
use Rattle.tc_sets.specs.Numbers.{Numbers, Has, IsSet}
use Rattle.tc_sets.proofs.Bits.{number_below}
use Rattle.tc_incl.specs.Arithmetic.{is_start}
use Rattle.tc_incl.specs.Sets.{members}
use Rattle.tc_incl.specs.Sides.{AreAllowed, IsAllowed, IsTaken}
use Rattle.tc_incl.proofs.Listed.{members_have}

module _ (g : Grammar) (states : Numbers) (number first end : ℕ) (begins : first ≡ first_state g input number) (ends : end ≡ first_state g input (suc number)) where
  pub taken_at : 1 ≤ number → number ≤ length g.elements → (state : ℕ) → first ≤ state → state < end → Has states state → IsAccepting g input state → IsTaken g states number
  taken_at low high state from below there accepts =
      let (e, at) = pattern_at g.elements number low high in
      let part : IsPart g input number e.content = a_content at in
      let y : ℕ = state - first in
      let is : state ≡ first_state g input number + y = omega (arith, from, begins) in
      let small : y < (automaton e.content).count = omega (arith, next_first g input part, from, below, begins, ends) in
      (e, at, (y, subst (Has states) is there, accepting_of_part g input y state part small is accepts))

  pub not_taken : ((state : ℕ) → first ≤ state → state < end → Has states state → IsAccepting g input state → ⊥) → IsTaken g states number → ⊥
  not_taken never (e, at, (y, there, accepts)) =
      let part : IsPart g input number e.content = a_content at in
      let q = sound e.content in
      let state : ℕ = first_state g input number + y in
      never state (omega (arith, begins)) (omega (arith, next_first g input part, q.accepted y accepts, ends)) there (number, e.content, y, part, refl, accepts)

-- numbers of element patterns are those of the automaton
pub allowed_low : (g : Grammar) (a : Auto) → held.Stands input g a → (n : ℕ) → length a.elements.now ≤ n → (k : ℕ) → (e : ElementPattern) → element_at g.elements k ≡ Some e → k ≤ n
allowed_low g a st n high k e at = let (low, most) = number_within g.elements k e at in omega (arith, most, high, patterns_of input g a st)

pub no_pattern_of_none : (g : Grammar) (e : ElementPattern) → element_at g.elements 0 ≡ Some e → ⊥
no_pattern_of_none g e at = let (low, high) = number_within g.elements 0 e at in omega (arith, low)

pub some_pattern_of : (g : Grammar) (a : Auto) → held.Stands input g a → (k : ℕ) → 1 ≤ k → k ≤ length a.elements.now → (e : ElementPattern) × (element_at g.elements k ≡ Some e)
some_pattern_of g a st k low high = pattern_at g.elements k low (omega (arith, high, patterns_of input g a st))

-- what one number more tells, where none before it did
pub none_more : (P : ℕ → Type 0) (first n : ℕ) → ((k : ℕ) → first ≤ k → k < n → P k → ⊥) → (P n → ⊥) → (k : ℕ) → first ≤ k → k < n + 1 → P k → ⊥
none_more P first n before last k high low p = by (most k n low)
  where
    most : (k n : ℕ) → k < n + 1 → (k < n) ⊎ (k ≡ n)
    most k n l = grind arith

    by : (k < n) ⊎ (k ≡ n) → ⊥
    by (inl l) = before k high l p
    by (inr e) = last (subst P e p)

pub pushed_at : {X : Type 0} (xs : List X) (x : X) (i : ℕ) (y : X) → slice_get (xs ++ x ∷ []) i ≡ Some y → (slice_get xs i ≡ Some y) ⊎ ((i ≡ length xs) × (x ≡ y))
pushed_at [] x zero y e = inr (refl, same_Some x y e)
pushed_at [] x (suc i) y e = absurd (cc)
pushed_at (z ∷ xs) x zero y e = inl e
pushed_at (z ∷ xs) x (suc i) y e = elim (pushed_at xs x i y e) [ inl a ↦ inl a | inr (place, b) ↦ inr (ap suc place, b) ]

-- of each symbol, the sets tell the name that stands for it
pub allowed_more : (g : Grammar) (symbols : List Mention) (sets more : List Numbers) (s : Numbers) → more ≡ sets ++ s ∷ [] → AreAllowed g symbols sets → ((k : ℕ) → Has s k ↔ IsAllowed g (fresh_name symbols (length sets)) k) → AreAllowed g symbols more
allowed_more g symbols sets more s same before here a t at k = by (pushed_at sets s a t (subst (λ w. slice_get w a ≡ Some t) same at))
  where
    by : (slice_get sets a ≡ Some t) ⊎ ((a ≡ length sets) × (s ≡ t)) → Has t k ↔ IsAllowed g (fresh_name symbols a) k
    by (inl e) = before a t e k
    by (inr (place, e)) = subst (λ w. Has w k ↔ IsAllowed g (fresh_name symbols a) k) e (subst (λ n. Has s k ↔ IsAllowed g (fresh_name symbols n) k) (sym place) (here k))

-- one of the element patterns may start
any_of_all : (f : ℕ → Bool) (ks : List ℕ) (k : ℕ) → HasItem ks k → f k ≡ true → list_any f ks ≡ true
any_of_all f [] k h e = absurd h
any_of_all f (j ∷ ks) k (inl same) e = let now : f j ≡ true = ap f same ∙ e in ap (λ w. w || list_any f ks) now
any_of_all f (j ∷ ks) k (inr h) e = by (f j) (any_of_all f ks k h e)
  where
    by : (b : Bool) → list_any f ks ≡ true → (b || list_any f ks) ≡ true
    by true a = refl
    by false a = a

none_of_all : (f : ℕ → Bool) (ks : List ℕ) → ((k : ℕ) → HasItem ks k → f k ≡ true → ⊥) → list_any f ks ≡ false
none_of_all f [] none = refl
none_of_all f (j ∷ ks) none = by (f j) refl (none_of_all f ks (λ k h. none k (inr h)))
  where
    by : (b : Bool) → f j ≡ b → list_any f ks ≡ false → (b || list_any f ks) ≡ false
    by true e a = absurd (none j (inl refl) e)
    by false e a = a

pub starts_told : (g : Grammar) (s : Numbers) → IsSet s → (k : ℕ) → Has s k → is_alternative k g.start ≡ true → is_start g (members s) ≡ true
starts_told g s ok k h e = any_of_all (λ k. is_alternative k g.start) (members s) k (has_from_contains (members s) k ((members_have s ok k).1 h)) e

pub starts_not : (g : Grammar) (s : Numbers) → IsSet s → ((k : ℕ) → k < s.size → Has s k → is_alternative k g.start ≡ true → ⊥) → is_start g (members s) ≡ false
starts_not g s ok none =
    none_of_all (λ k. is_alternative k g.start) (members s) (λ k h e. let there = (members_have s ok k).0 (contains_from_has (members s) k h) in none k (number_below s ok k there) there e)
