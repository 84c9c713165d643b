-- What is worked out of symbols.
use Rattle.std.proofs.Common.{◌≡◌, ◌⊎◌, inl, inr, ℕ, zero, suc, ◌<◌, List, [], ◌∷◌, ◌++◌, length, Bool, true, false, Some, refl, sym, ap, subst, ◌∙◌, slice_get, get_or, set, arith, All}
use Rattle.std.proofs.lemmas.Bool.{true≢false}
use Rattle.std.proofs.lemmas.Option.{same_Some, slice_get_within}
use Rattle.tc_auto.specs.declared.auto.Auto.{Auto}
use Rattle.tc_model.specs.Names.{ExpandedName}
use Rattle.tc_model.specs.Trees.{Trees, none}
use Rattle.tc_model.specs.Grammars.{Grammar, ElementPattern, element_at, in_class}
use Rattle.tc_model.specs.Sheets.{Sheet}
use Rattle.tc_model.specs.Symbols.{Mention, symbol_of, AreAlike}
use Rattle.tc_sets.specs.Numbers.{Numbers}
use Rattle.tc_steps.specs.Led.{AreAllowed, AreLed}
use Rattle.tc_steps.specs.Classes.{IsSized, AreSized, IsClass, AreClasses, IsKnown}
use Rattle.tc_steps.specs.declared.classes.Class.{Class}

pushed_at : {X : Type 0} (xs : List X) (x : X) (i : ℕ) (y : X) → slice_get (xs ++ x ∷ []) i ≡ Some y → (slice_get xs i ≡ Some y) ⊎ (x ≡ y)
pushed_at [] x zero y e = inr (same_Some x y e)
pushed_at [] x (suc i) y e = absurd (cc)
pushed_at (z ∷ xs) x zero y e = inl e
pushed_at (z ∷ xs) x (suc i) y e = pushed_at xs x i y e

pub sized_more : (a : Auto) (cs new : List Class) (c : Class) → new ≡ cs ++ c ∷ [] → AreSized a cs → IsSized a c → AreSized a new
sized_more a cs new c is before here k d at = elim (pushed_at cs c k d (subst (λ w. slice_get w k ≡ Some d) is at)) [
  | inl old ↦ before k d old
  | inr same ↦ subst (IsSized a) same here
]

pub unknown_more : (cs new : List Class) (c : Class) → new ≡ cs ++ c ∷ [] → ((k : ℕ) → IsKnown cs k → ⊥) → c.known ≡ false → (k : ℕ) → IsKnown new k → ⊥
unknown_more cs new c is before unknown k (d, at, known) = elim (pushed_at cs c k d (subst (λ w. slice_get w k ≡ Some d) is at)) [
  | inl old ↦ before k (d, old, known)
  | inr same ↦ true≢false (sym known ∙ (ap (λ (w : Class). w.known) (sym same) ∙ unknown))
]

pub unknown_classes : (x : Grammar) (symbols : List Mention) (cs : List Class) → ((k : ℕ) → IsKnown cs k → ⊥) → AreClasses x symbols cs
unknown_classes x symbols cs missing k c at = record { allowed = λ known. absurd (missing k (c, at, known)); led = λ known. absurd (missing k (c, at, known)) }

got : {X : Type 0} (xs : List X) (k : ℕ) (d y : X) → slice_get xs k ≡ Some y → get_or xs k d ≡ y
got [] k d y e = absurd (cc)
got (x ∷ xs) zero d y e = same_Some x y e
got (x ∷ xs) (suc k) d y e = got xs k d y e

-- names that are alike are in the same classes
module _ (x : Grammar) (n m : ExpandedName) (alike : All (λ e. in_class e.names n ≡ in_class e.names m) x.elements) where
  same_class : (k : ℕ) (e : ElementPattern) → element_at x.elements k ≡ Some e → in_class e.names n ≡ in_class e.names m
  same_class zero e at = absurd (cc)
  same_class (suc k) e at =
      subst (λ (w : ElementPattern). in_class w.names n ≡ in_class w.names m) (got x.elements k e e at) (alike k e (slice_get_within x.elements k e at))

  pub allowed_alike : (s : Numbers) → AreAllowed x n s → AreAllowed x m s
  allowed_alike s allowed k =
      (λ h. let (e, at, inside) = (allowed k).0 h in (e, at, sym (same_class k e at) ∙ inside), λ (e, at, inside). (allowed k).1 (e, at, same_class k e at ∙ inside))

  pub led_alike : (kids : Trees) (s : Numbers) → AreLed x n kids s → AreLed x m kids s
  led_alike kids s led j =
      (λ h. let (k, e, at, inside, l) = (led j).0 h in (k, e, at, sym (same_class k e at) ∙ inside, l), λ (k, e, at, inside, l). (led j).1 (k, e, at, same_class k e at ∙ inside, l))

-- one symbol's class is worked out anew

pub slot_set : {X : Type 0} (xs : List X) (i k : ℕ) (c y : X) → slice_get (set xs i c) k ≡ Some y → ((k ≡ i) × (c ≡ y)) ⊎ (slice_get xs k ≡ Some y)
slot_set [] i k c y e = inr e
slot_set (x ∷ xs) zero zero c y e = inl (refl, same_Some c y e)
slot_set (x ∷ xs) zero (suc k) c y e = inr e
slot_set (x ∷ xs) (suc i) zero c y e = inr e
slot_set (x ∷ xs) (suc i) (suc k) c y e = elim (slot_set xs i k c y e) [ inl (at, same) ↦ inl (ap suc at, same) | inr old ↦ inr old ]

pub set_slot : {X : Type 0} (xs : List X) (i : ℕ) (c : X) → i < length xs → slice_get (set xs i c) i ≡ Some c
set_slot [] i c l = absurd (omega (arith, l))
set_slot (x ∷ xs) zero c l = refl
set_slot (x ∷ xs) (suc i) c l = set_slot xs i c (omega (arith, l))

pub set_other : {X : Type 0} (xs : List X) (i k : ℕ) (c y : X) → slice_get xs k ≡ Some y → (slice_get (set xs i c) k ≡ Some y) ⊎ ((k ≡ i) × (i < length xs))
set_other [] i k c y e = absurd (cc)
set_other (x ∷ xs) zero zero c y e = inr (refl, omega arith)
set_other (x ∷ xs) zero (suc k) c y e = inl e
set_other (x ∷ xs) (suc i) zero c y e = inl e
set_other (x ∷ xs) (suc i) (suc k) c y e = elim (set_other xs i k c y e) [ inl a ↦ inl a | inr (same, low) ↦ inr (ap suc same, omega (arith, low)) ]

module _ (cs : List Class) (i : ℕ) (c : Class) (low : i < length cs) (known : c.known ≡ true) where
  pub set_known : IsKnown (set cs i c) i
  set_known = (c, set_slot cs i c low, known)

  pub stays_known : (k : ℕ) → IsKnown cs k → IsKnown (set cs i c) k
  stays_known k (d, at, is) = elim (set_other cs i k c d at) [
    | inl there ↦ (d, there, is)
    | inr (same, l) ↦ subst (IsKnown (set cs i c)) (sym same) set_known
  ]

  pub set_sized : (a : Auto) → AreSized a cs → IsSized a c → AreSized a (set cs i c)
  set_sized a before here k d at = elim (slot_set cs i k c d at) [
    | inl (same, is) ↦ subst (IsSized a) is here
    | inr old ↦ before k d old
  ]

  pub set_classes : (x other : Grammar) (sheet : Sheet) (symbols : List Mention) (n : ExpandedName) → AreClasses x symbols cs → ((m : ExpandedName) → i ≡ symbol_of symbols m → AreAlike x other sheet n m)
      → AreAllowed x n c.numbers → AreLed x n none c.firsts → AreClasses x symbols (set cs i c)
  set_classes x other sheet symbols n before alike allowed led k d at = elim (slot_set cs i k c d at) [
    | inl (same, is) ↦ subst (λ (w : Class). IsClass x symbols k w) is (record {
      allowed = λ _ m e. let a = alike m (sym same ∙ sym e) in allowed_alike x n m a.in_input c.numbers allowed;
      led = λ _ m e. let a = alike m (sym same ∙ sym e) in led_alike x n m a.in_input none c.firsts led;
    })
    | inr old ↦ before k d old
  ]

-- a symbol's class that is met: it is what it was, where it was known, and else worked out anew
pub met_classes : (x other : Grammar) (sheet : Sheet) (symbols : List Mention) (n : ExpandedName) (cs : List Class) (i : ℕ) (before c : Class) → slice_get cs i ≡ Some before → c.known ≡ true → (before.known ≡ true → c ≡ before)
    → (before.known ≡ false → AreAllowed x n c.numbers) → (before.known ≡ false → AreLed x n none c.firsts) → AreClasses x symbols cs → ((m : ExpandedName) → i ≡ symbol_of symbols m → AreAlike x other sheet n m) → AreClasses x symbols (set cs i c)
met_classes x other sheet symbols n cs i before c at known stays allowed led are alike = by before.known refl
  where
    by : (b : Bool) → before.known ≡ b → AreClasses x symbols (set cs i c)
    by true e = λ k d there. elim (slot_set cs i k c d there) [
      | inl (same, is) ↦ subst (λ (w : Class). IsClass x symbols k w) (sym (stays e) ∙ is) (are k before (ap (slice_get cs) same ∙ at))
      | inr old ↦ are k d old
    ]
    by false e = set_classes cs i c (slice_get_within cs i before at) known x other sheet symbols n are alike (allowed e) (led e)

-- what a known symbol's class says
pub class_of : (x : Grammar) (symbols : List Mention) (cs : List Class) (k : ℕ) (c : Class) → AreClasses x symbols cs → slice_get cs k ≡ Some c → IsKnown cs k → (n : ExpandedName) → k ≡ symbol_of symbols n
    → AreAllowed x n c.numbers × AreLed x n none c.firsts
class_of x symbols cs k c right at (d, there, known) n is =
    let same : d ≡ c = same_Some d c (sym there ∙ at) in
    let known_here : c.known ≡ true = ap (λ (w : Class). w.known) (sym same) ∙ known in
    let r = right k c at in
    (r.allowed known_here n (sym is), r.led known_here n (sym is))
