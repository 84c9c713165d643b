-- Where states lead, put together element pattern by element pattern.
use Rattle.std.proofs.Common.{◌≡◌, ◌↔◌, ◌⊎◌, inl, inr, ℕ, zero, suc, ◌+◌, ◌≤◌, ◌<◌, List, [], ◌∷◌, ◌++◌, length, Bool, true, false, Some, refl, sym, ap, subst, ◌∙◌, slice_get, arith}
use Rattle.std.specs.List.{Contains}
use Rattle.std.proofs.lemmas.Option.{same_Some}
use Rattle.tc_auto.specs.Stands as a
use Rattle.tc_auto.specs.declared.auto.Auto.{Auto}
use Rattle.tc_auto.specs.declared.arrows.Arrow.{Arrow}
use Rattle.tc_hedge.proofs.Bounds.{patterns_of}
use Rattle.tc_model.specs.Grammars.{Grammar}
use Rattle.tc_model.specs.States.{input, ref_leaf, IsEdge}
use Rattle.tc_sets.specs.Numbers.{Numbers, Has, HasNone}
use Rattle.tc_incl.specs.declared.rows.Row.{Row}
use Rattle.tc_incl.specs.declared.both.Both.{Both}
use Rattle.tc_incl.specs.declared.steps.Steps.{Steps}
use Rattle.tc_incl.specs.declared.steps.BothSteps.{BothSteps}
use Rattle.tc_incl.specs.Sides.{AreAfterPatterns, IsAfter, IsAfterElement, IsAfterPattern, IsAtSome}
use Rattle.tc_incl.specs.Stepped.{AreBothSteps, AreStepped}
use Rattle.tc_incl.specs.Steps.{AreSteps, IsLed}
use Rattle.tc_incl.proofs.Taken.{pushed_at}

-- sets at some places, from the first on
module _ (sets : List Numbers) (places start : Numbers) where
  abbrev pub IsPutTo : ℕ → Numbers → Type 0
  IsPutTo n s = (j : ℕ) → Has s j ↔ (Has start j ⊎ IsAtSome sets places n j)

  less_or_last : (k n : ℕ) → k < n + 1 → (k < n) ⊎ (k ≡ n)
  less_or_last k n l = grind arith

  pub put_more : (n : ℕ) (s old new : Numbers) → slice_get sets n ≡ Some s → Has places (n + 1) → IsPutTo n old → ((j : ℕ) → Has new j ↔ (Has old j ⊎ Has s j)) → IsPutTo (n + 1) new
  put_more n s old new at there before put j = (λ h. to ((put j).0 h), λ e. (put j).1 (of e))
    where
      to : Has old j ⊎ Has s j → Has start j ⊎ IsAtSome sets places (n + 1) j
      to (inl h) = elim ((before j).0 h) [ inl first ↦ inl first | inr (k, t, low, p, here, i) ↦ inr (k, t, omega (arith, low), p, here, i) ]
      to (inr h) = inr (n, s, omega arith, there, at, h)

      last : (k : ℕ) (t : Numbers) → (k < n) ⊎ (k ≡ n) → Has places (k + 1) → slice_get sets k ≡ Some t → Has t j → Has old j ⊎ Has s j
      last k t (inl low) p here i = inl ((before j).1 (inr (k, t, low, p, here, i)))
      last k t (inr same) p here i = inr (subst (λ w. Has w j) (same_Some t s (sym here ∙ (ap (slice_get sets) same ∙ at))) i)

      of : Has start j ⊎ IsAtSome sets places (n + 1) j → Has old j ⊎ Has s j
      of (inl h) = inl ((before j).1 (inl h))
      of (inr (k, t, low, p, here, i)) = last k t (less_or_last k n low) p here i

  pub put_same : (n : ℕ) (s : Numbers) → (Has places (n + 1) → ⊥) → IsPutTo n s → IsPutTo (n + 1) s
  put_same n s not before j = (
    λ h. elim ((before j).0 h) [ inl first ↦ inl first | inr (k, t, low, p, here, i) ↦ inr (k, t, omega (arith, low), p, here, i) ],
    λ e. (before j).1 (of e),
  )
    where
      last : (k : ℕ) (t : Numbers) → (k < n) ⊎ (k ≡ n) → Has places (k + 1) → slice_get sets k ≡ Some t → Has t j → Has start j ⊎ IsAtSome sets places n j
      last k t (inl low) p here i = inr (k, t, low, p, here, i)
      last k t (inr same) p here i = absurd (not (subst (λ w. Has places (w + 1)) same p))

      of : Has start j ⊎ IsAtSome sets places (n + 1) j → Has start j ⊎ IsAtSome sets places n j
      of (inl h) = inl h
      of (inr (k, t, low, p, here, i)) = last k t (less_or_last k n low) p here i

-- a text or an element, put to what is there
module _ (steps : Steps) (patterns old new : Numbers) where
  pub put_text : (is_text : Bool) → is_text ≡ true → ((j : ℕ) → Has new j ↔ (Has old j ⊎ Has steps.text j)) → (j : ℕ) → Has new j ↔ (Has old j ⊎ IsLed steps is_text patterns j)
  put_text is_text e put j = (
    λ h. elim ((put j).0 h) [ inl a ↦ inl a | inr t ↦ inr (inl (e, t)) ],
    λ h. (put j).1 (elim h [ inl a ↦ inl a | inr (inl (_, t)) ↦ inr t | inr (inr (f, _)) ↦ absurd (cc) ]),
  )

  pub put_element : (is_text : Bool) → is_text ≡ false → ((j : ℕ) → Has new j ↔ (Has old j ⊎ IsAtSome steps.elements.items patterns (length steps.elements.items) j))
      → (j : ℕ) → Has new j ↔ (Has old j ⊎ IsLed steps is_text patterns j)
  put_element is_text e put j = (
    λ h. elim ((put j).0 h) [ inl a ↦ inl a | inr t ↦ inr (inr (e, t)) ],
    λ h. (put j).1 (elim h [ inl a ↦ inl a | inr (inl (f, _)) ↦ absurd (cc) | inr (inr (_, t)) ↦ inr t ]),
  )

-- something stands at a place within
pub some_at : {X : Type 0} (xs : List X) (k : ℕ) → k < length xs → (y : X) × (slice_get xs k ≡ Some y)
some_at [] k l = absurd (omega (arith, l))
some_at (y ∷ xs) zero l = (y, refl)
some_at (y ∷ xs) (suc k) l = some_at xs k (omega (arith, l))

-- a tree leads as is told of its states
module _ (auto : Auto) (x : Grammar) (st : a.Stands input x auto) (states : Numbers) (steps : Steps) (are : AreSteps auto states steps) where
  at_element : (patterns : Numbers) (j : ℕ) → IsAtSome steps.elements.items patterns (length steps.elements.items) j ↔ IsAfterElement x states patterns (length x.elements) j
  at_element patterns j = (to, of)
    where
      count : length steps.elements.items ≡ length x.elements
      count = are.count ∙ patterns_of input x auto st

      to : IsAtSome steps.elements.items patterns (length steps.elements.items) j → IsAfterElement x states patterns (length x.elements) j
      to (k, s, low, p, at, h) = (k + 1, omega arith, omega (arith, low, count), p, (are.elements x st k s at j).0 h)

      by : (k : ℕ) → 1 ≤ k + 1 → k + 1 ≤ length x.elements → Has patterns (k + 1) → IsAfterPattern x states (k + 1) j → IsAtSome steps.elements.items patterns (length steps.elements.items) j
      by k low high p e =
          let small : k < length steps.elements.items = omega (arith, high, count) in
          let (s, at) = some_at steps.elements.items k small in
          (k, s, small, p, at, (are.elements x st k s at j).1 e)

      of : IsAfterElement x states patterns (length x.elements) j → IsAtSome steps.elements.items patterns (length steps.elements.items) j
      of (zero, low, high, p, e) = absurd (omega (arith, low))
      of (suc k, low, high, p, e) = let same : suc k ≡ k + 1 = omega arith in by k (omega arith) (omega (arith, high)) (subst (Has patterns) same p) (subst (λ w. IsAfterPattern x states w j) same e)

  pub led_after : (is_text : Bool) (patterns : Numbers) (j : ℕ) → IsLed steps is_text patterns j ↔ IsAfter x states is_text patterns j
  led_after is_text patterns j = (
    λ h. elim h [ inl (e, t) ↦ inl (e, (are.text x st j).0 t) | inr (e, t) ↦ inr (e, (at_element patterns j).0 t) ],
    λ h. elim h [ inl (e, t) ↦ inl (e, (are.text x st j).1 t) | inr (e, t) ↦ inr (e, (at_element patterns j).1 t) ],
  )

  pub put_after : (is_text : Bool) (patterns old new : Numbers) → HasNone old → ((j : ℕ) → Has new j ↔ (Has old j ⊎ IsLed steps is_text patterns j)) → (j : ℕ) → Has new j ↔ IsAfter x states is_text patterns j
  put_after is_text patterns old new none put j = (
    λ h. elim ((put j).0 h) [ inl a ↦ absurd (none j a) | inr t ↦ (led_after is_text patterns j).0 t ],
    λ h. (put j).1 (inr ((led_after is_text patterns j).1 h)),
  )

-- the ends of an element pattern's edges
pub pattern_led : (g : Grammar) (k : ℕ) (arrows : List Arrow) (states old new : Numbers) → ((e : Arrow) → Contains arrows e ↔ IsEdge g input e.from (ref_leaf k) e.to) → HasNone old
    → ((j : ℕ) → Has new j ↔ (Has old j ⊎ ((i : ℕ) × Has states i × Contains arrows (record { from = i; to = j })))) → (j : ℕ) → Has new j ↔ IsAfterPattern g states k j
pattern_led g k arrows states old new exact none put j = (λ h. to ((put j).0 h), λ (i, there, e). (put j).1 (inr (i, there, (exact (record { from = i; to = j })).1 e)))
  where
    to : Has old j ⊎ ((i : ℕ) × Has states i × Contains arrows (record { from = i; to = j })) → IsAfterPattern g states k j
    to (inl h) = absurd (none j h)
    to (inr (i, there, c)) = (i, there, (exact (record { from = i; to = j })).0 c)

-- one element pattern more
pub patterns_more : (g : Grammar) (states : Numbers) (sets more : List Numbers) (s : Numbers) → more ≡ sets ++ s ∷ [] → AreAfterPatterns g states sets → ((j : ℕ) → Has s j ↔ IsAfterPattern g states (length sets + 1) j)
    → AreAfterPatterns g states more
patterns_more g states sets more s same before here k t at j = by (pushed_at sets s k t (subst (λ w. slice_get w k ≡ Some t) same at))
  where
    by : (slice_get sets k ≡ Some t) ⊎ ((k ≡ length sets) × (s ≡ t)) → Has t j ↔ IsAfterPattern g states (k + 1) j
    by (inl e) = before k t e j
    by (inr (place, e)) = subst (λ w. Has w j ↔ IsAfterPattern g states (k + 1) j) e (subst (λ n. Has s j ↔ IsAfterPattern g states (n + 1) j) (sym place) (here j))

-- a row stays where it stands when others come behind
pub front : (xs ys : List Row) (i : ℕ) (q : Row) → slice_get xs i ≡ Some q → slice_get (xs ++ ys) i ≡ Some q
front [] ys i q e = absurd (cc)
front (x ∷ xs) ys zero q e = e
front (x ∷ xs) ys (suc i) q e = front xs ys i q e

-- rows that were stepped stay so
module _ (b : Both) (hedges : List Row) where
  pub stepped_more : (steps more : List BothSteps) (t : BothSteps) (h : Row) → more ≡ steps ++ t ∷ [] → AreStepped b hedges steps → slice_get hedges (length steps) ≡ Some h → AreBothSteps b h t → AreStepped b hedges more
  stepped_more steps more t h same before there are i u at = by (pushed_at steps t i u (subst (λ w. slice_get w i ≡ Some u) same at))
    where
      by : (slice_get steps i ≡ Some u) ⊎ ((i ≡ length steps) × (t ≡ u)) → (h : Row) × (slice_get hedges i ≡ Some h) × AreBothSteps b h u
      by (inl e) = before i u e
      by (inr (place, e)) = (h, ap (slice_get hedges) place ∙ there, subst (AreBothSteps b h) e are)

  -- where more rows come on, and where none does
  pub stepped_longer : (more : List Row) (steps : List BothSteps) → AreStepped b hedges steps → AreStepped b (hedges ++ more) steps
  stepped_longer more steps before i t at = let (h, there, are) = before i t at in (h, front hedges more i h there, are)

-- a row's steps are those that stand at its place
pub steps_at : (b : Both) (hedges : List Row) (steps : List BothSteps) (i : ℕ) (t : BothSteps) (h : Row) → AreStepped b hedges steps → slice_get steps i ≡ Some t → slice_get hedges i ≡ Some h → AreBothSteps b h t
steps_at b hedges steps i t h stepped at there = let (g, here, are) = stepped i t at in subst (λ w. AreBothSteps b w t) (same_Some g h (sym here ∙ there)) are

-- what is allowed and taken is around
pub allowed_and_taken : (allowed around taken : Numbers) (Allowed Taken : ℕ → Type 0) → ((k : ℕ) → Has around k ↔ (Has allowed k × Has taken k)) → ((k : ℕ) → Has allowed k ↔ Allowed k) → ((k : ℕ) → Has taken k ↔ Taken k)
    → (k : ℕ) → Has around k ↔ (Allowed k × Taken k)
allowed_and_taken allowed around taken Allowed Taken keeps is takes k = (
  λ h. let (p, t) = (keeps k).0 h in ((is k).0 p, (takes k).0 t),
  λ (a, t). (keeps k).1 ((is k).1 a, (takes k).1 t),
)

-- rows that are held stay stepped where one comes on
pub stepped_held : (b : Both) (hs ks : List Row) (u : ℕ) (r : Row) (steps : List BothSteps) → ((u < length hs) × (ks ≡ hs)) ⊎ ((u ≡ length hs) × (ks ≡ hs ++ r ∷ [])) → AreStepped b hs steps → AreStepped b ks steps
stepped_held b hs ks u r steps (inl (low, same)) before = subst (λ w. AreStepped b w steps) (sym same) before
stepped_held b hs ks u r steps (inr (last, same)) before = subst (λ w. AreStepped b w steps) (sym same) (stepped_longer b hs (r ∷ []) steps before)

-- the row that steps are of
pub stepped_at : (b : Both) (hs ks : List Row) (steps : List BothSteps) (h : ℕ) (t : BothSteps) → ks ≡ hs → AreStepped b ks steps → slice_get steps h ≡ Some t → (p : Row) × (slice_get hs h ≡ Some p) × AreBothSteps b p t
stepped_at b hs ks steps h t same before at = subst (λ w. (p : Row) × (slice_get w h ≡ Some p) × AreBothSteps b p t) same (before h t at)
