-- Sets that are put together number by number.
use Rattle.std.proofs.Common.{◌≡◌, ◌↔◌, ◌⊎◌, inl, inr, ℕ, ◌+◌, ◌≤◌, ◌<◌, List, [], ◌∷◌, ◌++◌, length, take, get_or, sym, ap, subst, ◌∙◌, add-one, arith}
use Rattle.std.specs.List.{Contains}
use Rattle.std.proofs.Math.Seq.{take-suc}
use Rattle.std.proofs.lemmas.List.{take_all}
use Rattle.tc_alpha.proofs.Members.{has_from_contains, contains_from_has, has_front, has_back, has_either}
use Rattle.tc_auto.specs.declared.arrows.Arrow.{Arrow}
use Rattle.tc_model.specs.Grammars.{Grammar}
use Rattle.tc_model.specs.States.{input, ref_leaf, text_leaf, first_state, IsEdge}
use Rattle.tc_sets.specs.Numbers.{Numbers, Has, HasNone}
use Rattle.tc_incl.specs.Sets.{IsFound}
use Rattle.tc_incl.specs.Sides.{IsBegun, IsAfterText, IsAfterElement}

most_more : (k n : ℕ) → k ≤ n + 1 → (k ≤ n) ⊎ (k ≡ n + 1)
most_more k n l = grind arith

module _ (P : ℕ → Type 0) where
  pub found_none : (s : Numbers) → HasNone s → (P 0 → ⊥) → IsFound P 0 s
  found_none s none not k = (λ h. absurd (none k h), λ (l, p). absurd (not (subst P (omega (arith, l)) p)))

  pub found_more : (n : ℕ) (old new : Numbers) → IsFound P n old → P (n + 1) → ((j : ℕ) → Has new j ↔ (Has old j ⊎ (j ≡ n + 1))) → IsFound P (n + 1) new
  found_more n old new before here put k = (λ h. to ((put k).0 h), λ (l, p). (put k).1 (of (most_more k n l) p))
    where
      to : Has old k ⊎ (k ≡ n + 1) → (k ≤ n + 1) × P k
      to (inl h) = let (l, p) = (before k).0 h in (omega (arith, l), p)
      to (inr e) = (omega (arith, e), subst P (sym e) here)

      of : (k ≤ n) ⊎ (k ≡ n + 1) → P k → Has old k ⊎ (k ≡ n + 1)
      of (inl l) p = inl ((before k).1 (l, p))
      of (inr e) p = inr e

  pub found_same : (n : ℕ) (s : Numbers) → IsFound P n s → (P (n + 1) → ⊥) → IsFound P (n + 1) s
  found_same n s before not k = (λ h. let (l, p) = (before k).0 h in (omega (arith, l), p), λ (l, p). of (most_more k n l) p)
    where
      of : (k ≤ n) ⊎ (k ≡ n + 1) → P k → Has s k
      of (inl l) p = (before k).1 (l, p)
      of (inr e) p = absurd (not (subst P e p))

  pub found_all : (n : ℕ) (s : Numbers) → IsFound P n s → ((k : ℕ) → P k → k ≤ n) → (k : ℕ) → Has s k ↔ P k
  found_all n s found low k = (λ h. ((found k).0 h).1, λ p. (found k).1 (low k p, p))

module _ (g : Grammar) where
  -- the first states of contents
  pub begun_none : (s : Numbers) → HasNone s → (j : ℕ) → Has s j ↔ IsBegun g 0 j
  begun_none s none j = (λ h. absurd (none j h), λ (k, low, high, e). absurd (omega (arith, low, high)))

  pub begun_more : (n first : ℕ) (old new : Numbers) → first ≡ first_state g input (n + 1) → ((j : ℕ) → Has old j ↔ IsBegun g n j) → ((j : ℕ) → Has new j ↔ (Has old j ⊎ (j ≡ first))) → (j : ℕ) → Has new j ↔ IsBegun g (n + 1) j
  begun_more n first old new is before put j = (λ h. to ((put j).0 h), λ (k, low, high, e). (put j).1 (of k low (most_more k n high) e))
    where
      to : Has old j ⊎ (j ≡ first) → IsBegun g (n + 1) j
      to (inl h) = let (k, low, high, e) = (before j).0 h in (k, low, omega (arith, high), e)
      to (inr e) = (n + 1, omega arith, omega arith, e ∙ is)

      of : (k : ℕ) → 1 ≤ k → (k ≤ n) ⊎ (k ≡ n + 1) → j ≡ first_state g input k → Has old j ⊎ (j ≡ first)
      of k low (inl l) e = inl ((before j).1 (k, low, l, e))
      of k low (inr same) e = inr (e ∙ (ap (first_state g input) same ∙ sym is))

  -- the states behind a text
  pub text_led : (arrows : List Arrow) (states old new : Numbers) → ((a : Arrow) → Contains arrows a ↔ IsEdge g input a.from text_leaf a.to) → HasNone old
      → ((j : ℕ) → Has new j ↔ (Has old j ⊎ ((i : ℕ) × Has states i × Contains arrows (record { from = i; to = j })))) → (j : ℕ) → Has new j ↔ IsAfterText g states j
  text_led arrows states old new exact none put j = (λ h. to ((put j).0 h), λ (i, there, e). (put j).1 (inr (i, there, (exact (record { from = i; to = j })).1 e)))
    where
      to : Has old j ⊎ ((i : ℕ) × Has states i × Contains arrows (record { from = i; to = j })) → IsAfterText g states j
      to (inl h) = absurd (none j h)
      to (inr (i, there, c)) = (i, there, (exact (record { from = i; to = j })).0 c)

  -- and behind elements
  pub element_none : (states patterns s : Numbers) → HasNone s → (j : ℕ) → Has s j ↔ IsAfterElement g states patterns 0 j
  element_none states patterns s none j = (λ h. absurd (none j h), λ (k, low, high, p, e). absurd (omega (arith, low, high)))

  pub element_more : (n : ℕ) (arrows : List Arrow) (states patterns old new : Numbers) → Has patterns (n + 1) → ((a : Arrow) → Contains arrows a ↔ IsEdge g input a.from (ref_leaf (n + 1)) a.to)
      → ((j : ℕ) → Has old j ↔ IsAfterElement g states patterns n j) → ((j : ℕ) → Has new j ↔ (Has old j ⊎ ((i : ℕ) × Has states i × Contains arrows (record { from = i; to = j }))))
      → (j : ℕ) → Has new j ↔ IsAfterElement g states patterns (n + 1) j
  element_more n arrows states patterns old new here exact before put j =
      (λ h. to ((put j).0 h), λ (k, low, high, p, e). (put j).1 (of k low (most_more k n high) p e))
    where
      to : Has old j ⊎ ((i : ℕ) × Has states i × Contains arrows (record { from = i; to = j })) → IsAfterElement g states patterns (n + 1) j
      to (inl h) = let (k, low, high, p, e) = (before j).0 h in (k, low, omega (arith, high), p, e)
      to (inr (i, there, c)) = (n + 1, omega arith, omega arith, here, (i, there, (exact (record { from = i; to = j })).0 c))

      of : (k : ℕ) → 1 ≤ k → (k ≤ n) ⊎ (k ≡ n + 1) → Has patterns k → (i : ℕ) × Has states i × IsEdge g input i (ref_leaf k) j → Has old j ⊎ ((i : ℕ) × Has states i × Contains arrows (record { from = i; to = j }))
      of k low (inl l) p e = inl ((before j).1 (k, low, l, p, e))
      of k low (inr same) p (i, there, e) = inr (i, there, (exact (record { from = i; to = j })).1 (subst (λ w. IsEdge g input i (ref_leaf w) j) same e))

  pub element_same : (n : ℕ) (states patterns s : Numbers) → (Has patterns (n + 1) → ⊥) → ((j : ℕ) → Has s j ↔ IsAfterElement g states patterns n j) → (j : ℕ) → Has s j ↔ IsAfterElement g states patterns (n + 1) j
  element_same n states patterns s not before j = (λ h. let (k, low, high, p, e) = (before j).0 h in (k, low, omega (arith, high), p, e), λ (k, low, high, p, e). of k low (most_more k n high) p e)
    where
      of : (k : ℕ) → 1 ≤ k → (k ≤ n) ⊎ (k ≡ n + 1) → Has patterns k → (i : ℕ) × Has states i × IsEdge g input i (ref_leaf k) j → Has s j
      of k low (inl l) p e = (before j).1 (k, low, l, p, e)
      of k low (inr same) p e = absurd (not (subst (Has patterns) same p))

-- the ends of arrows
module _ (arrows : List Arrow) (states start : Numbers) where
  abbrev pub IsEnded : List Arrow → Numbers → Type 0
  IsEnded some s = (j : ℕ) → Has s j ↔ (Has start j ⊎ ((i : ℕ) × Has states i × Contains some (record { from = i; to = j })))

  module _ (k : ℕ) (d : Arrow) (low : k < length arrows) where
    taken : take (k + 1) arrows ≡ take k arrows ++ (get_or arrows k d ∷ [])
    taken = ap (λ n. take n arrows) (add-one k) ∙ take-suc arrows k d low

    longer : (a : Arrow) → Contains (take k arrows) a → Contains (take (k + 1) arrows) a
    longer a c = subst (λ w. Contains w a) (sym taken) (contains_from_has (take k arrows ++ (get_or arrows k d ∷ [])) a (has_front (take k arrows) (get_or arrows k d ∷ []) a (has_from_contains (take k arrows) a c)))

    last : (a : Arrow) → get_or arrows k d ≡ a → Contains (take (k + 1) arrows) a
    last a e = subst (λ w. Contains w a) (sym taken) (contains_from_has (take k arrows ++ (get_or arrows k d ∷ [])) a (has_back (take k arrows) (get_or arrows k d ∷ []) a (inl e)))

    either : (a : Arrow) → Contains (take (k + 1) arrows) a → Contains (take k arrows) a ⊎ (get_or arrows k d ≡ a)
    either a c = elim (has_either (take k arrows) (get_or arrows k d ∷ []) a (has_from_contains (take k arrows ++ (get_or arrows k d ∷ [])) a (subst (λ w. Contains w a) taken c))) [
      | inl h ↦ inl (contains_from_has (take k arrows) a h)
      | inr (inl e) ↦ inr e
      | inr (inr f) ↦ absurd f
    ]

    pub ended_more : (old new : Numbers) → Has states (get_or arrows k d).from → IsEnded (take k arrows) old → ((j : ℕ) → Has new j ↔ (Has old j ⊎ (j ≡ (get_or arrows k d).to))) → IsEnded (take (k + 1) arrows) new
    ended_more old new there before put j = (λ h. to ((put j).0 h), λ e. (put j).1 (of e))
      where
        to : Has old j ⊎ (j ≡ (get_or arrows k d).to) → Has start j ⊎ ((i : ℕ) × Has states i × Contains (take (k + 1) arrows) (record { from = i; to = j }))
        to (inl h) = elim ((before j).0 h) [ inl s ↦ inl s | inr (i, m, c) ↦ inr (i, m, longer (record { from = i; to = j }) c) ]
        to (inr e) = inr ((get_or arrows k d).from, there, last (record { from = (get_or arrows k d).from; to = j }) (ap (λ (w : ℕ). let r : Arrow = record { from = (get_or arrows k d).from; to = w } in r) (sym e)))

        of : Has start j ⊎ ((i : ℕ) × Has states i × Contains (take (k + 1) arrows) (record { from = i; to = j })) → Has old j ⊎ (j ≡ (get_or arrows k d).to)
        of (inl s) = inl ((before j).1 (inl s))
        of (inr (i, m, c)) = elim (either (record { from = i; to = j }) c) [ inl w ↦ inl ((before j).1 (inr (i, m, w))) | inr e ↦ inr (ap (λ (a : Arrow). a.to) (sym e)) ]

    pub ended_same : (s : Numbers) → (Has states (get_or arrows k d).from → ⊥) → IsEnded (take k arrows) s → IsEnded (take (k + 1) arrows) s
    ended_same s not before j = (λ h. to ((before j).0 h), of)
      where
        to : Has start j ⊎ ((i : ℕ) × Has states i × Contains (take k arrows) (record { from = i; to = j })) → Has start j ⊎ ((i : ℕ) × Has states i × Contains (take (k + 1) arrows) (record { from = i; to = j }))
        to (inl h) = inl h
        to (inr (i, m, c)) = inr (i, m, longer (record { from = i; to = j }) c)

        of : Has start j ⊎ ((i : ℕ) × Has states i × Contains (take (k + 1) arrows) (record { from = i; to = j })) → Has s j
        of (inl h) = (before j).1 (inl h)
        of (inr (i, m, c)) = elim (either (record { from = i; to = j }) c) [
          | inl w ↦ (before j).1 (inr (i, m, w))
          | inr e ↦ absurd (not (subst (Has states) (ap (λ (a : Arrow). a.from) (sym e)) m))
        ]

  pub ended_all : (k : ℕ) (s : Numbers) → length arrows ≤ k → IsEnded (take k arrows) s → IsEnded arrows s
  ended_all k s high before = subst (λ w. IsEnded w s) (take_all k arrows high) before
