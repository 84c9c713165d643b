-- Which elements are reached is decided, by the elements that a way may pass: so each text has a grammar, with any element as the document's, or is refused.
use Rattle.std.proofs.Common.{◌≡◌, ◌⊎◌, inl, inr, ℕ, Bool, true, false, List, [], ◌∷◌, refl, sym, subst, map, bytes_eq, Option, None, Some, if◌then◌else◌}
use Rattle.std.specs.List.{Contains}
use Rattle.tc_model.specs.Grammars.{Grammar}
use Rattle.tc_dtd.specs.Declarations.{Content, Declaration, declared}
use Rattle.tc_dtd.specs.DtdGrammar.{mentioned, IsReached, at_root, within, Keeps, keeps_none, keeps, leaves, grammar_with, IsGrammarOfDtd}
use Rattle.tc_dtd.specs.DtdTextLaws.{HasGrammarOrFault}
use Rattle.tc_dtd.proofs.DecidingPhrases.{Decided, bytes_are}
use Rattle.tc_dtd.proofs.DecidingTexts.{dtd_or_fault}
use Rattle.tc_dtd.proofs.NamedLaws.{in_first, in_rest, in_none, in_cons, same_bytes}

-- a name is among others, or isn't
among : (n : List ℕ) (ns : List (List ℕ)) → Decided (Contains ns n)
among n [] = inr (in_none n)
among n (k ∷ ns) = by (bytes_are k n) (among n ns)
  where
    by : Decided (k ≡ n) → Decided (Contains ns n) → Decided (Contains (k ∷ ns) n)
    by (inl e) a = inl (subst (λ z. Contains (z ∷ ns) n) (sym e) (in_first n ns))
    by (inr h) (inl a) = inl (in_rest k ns n a)
    by (inr h) (inr g) = inr (λ c. elim (in_cons k ns n c) [ inl e ↦ h e | inr a ↦ g a ])

module _ (dtd : List Declaration) where
  abbrev names : List Declaration → List (List ℕ)
  names xs = map (λ x. x.name) xs

  -- one element may hold another
  record Step (a b : List ℕ) : Type 0 where
    content : Content
    is : declared dtd a ≡ Some content
    holds : Contains (mentioned dtd content) b

  some_same : {x y : Content} {o : Option Content} → o ≡ Some x → o ≡ Some y → x ≡ y
  some_same e f = cc

  none_some : {x : Content} {o : Option Content} → o ≡ None → o ≡ Some x → ⊥
  none_some e f = cc

  step_here : (a b : List ℕ) → Decided (Step a b)
  step_here a b = by (declared dtd a) refl
    where
      by : (o : Option Content) → declared dtd a ≡ o → Decided (Step a b)
      by None e = inr (λ s. none_some e s.is)
      by (Some c) e = elim (among b (mentioned dtd c)) [
        | inl h ↦ inl (record { content = c; is = e; holds = h })
        | inr h ↦ inr (λ s. h (subst (λ z. Contains (mentioned dtd z) b) (some_same s.is e) s.holds))
      ]

  -- a way from one to another, on which all others are among these
  abbrev Way : List (List ℕ) → List ℕ → List ℕ → Type 0
  Way [] a b = (a ≡ b) ⊎ Step a b
  Way (n ∷ ns) a b = Way ns a b ⊎ (Way ns a n × Way ns n b)

  way_here : (ns : List (List ℕ)) (a b : List ℕ) → Decided (Way ns a b)
  way_here [] a b = elim (bytes_are a b) [
    | inl e ↦ inl (inl e)
    | inr h ↦ elim (step_here a b) [ inl s ↦ inl (inr s) | inr k ↦ inr (λ w. elim w [ inl e ↦ h e | inr s ↦ k s ]) ]
  ]
  way_here (n ∷ ns) a b = by (way_here ns a b) (way_here ns a n) (way_here ns n b)
    where
      by : Decided (Way ns a b) → Decided (Way ns a n) → Decided (Way ns n b) → Decided (Way (n ∷ ns) a b)
      by (inl w) v u = inl (inl w)
      by (inr h) (inl v) (inl u) = inl (inr (v, u))
      by (inr h) (inl v) (inr k) = inr (λ w. elim w [ inl x ↦ h x | inr x ↦ k x.1 ])
      by (inr h) (inr g) u = inr (λ w. elim w [ inl x ↦ h x | inr x ↦ g x.0 ])

  -- one way and then another, by one of these
  joined : (ns : List (List ℕ)) (a b c : List ℕ) → Contains ns b → Way ns a b → Way ns b c → Way ns a c
  joined [] a b c i v w = absurd (in_none b i)
  joined (n ∷ ns) a b c i v w = by (in_cons n ns b i) v w (λ x y. joined ns x b y)
    where
      to_it : (x : List ℕ) → Way (n ∷ ns) x n → Way ns x n
      to_it x (inl p) = p
      to_it x (inr p) = p.0

      from_it : (y : List ℕ) → Way (n ∷ ns) n y → Way ns n y
      from_it y (inl p) = p
      from_it y (inr p) = p.1

      at_rest : Contains ns b → Way (n ∷ ns) a b → Way (n ∷ ns) b c → ((x y : List ℕ) → Contains ns b → Way ns x b → Way ns b y → Way ns x y) → Way (n ∷ ns) a c
      at_rest j (inl p) (inl q) go = inl (go a c j p q)
      at_rest j (inl p) (inr (q, r)) go = inr (go a n j p q, r)
      at_rest j (inr (p, q)) (inl r) go = inr (p, go n c j q r)
      at_rest j (inr (p, q)) (inr (r, t)) go = inr (p, t)

      by : (n ≡ b) ⊎ Contains ns b → Way (n ∷ ns) a b → Way (n ∷ ns) b c → ((x y : List ℕ) → Contains ns b → Way ns x b → Way ns b y → Way ns x y) → Way (n ∷ ns) a c
      by (inl e) p q go = inr (to_it a (subst (Way (n ∷ ns) a) (sym e) p), from_it c (subst (λ z. Way (n ∷ ns) z c) (sym e) q))
      by (inr j) p q go = at_rest j p q go

  one_step : (ns : List (List ℕ)) (a b : List ℕ) → Step a b → Way ns a b
  one_step [] a b s = inr s
  one_step (n ∷ ns) a b s = inl (one_step ns a b s)

  no_step : (ns : List (List ℕ)) (a : List ℕ) → Way ns a a
  no_step [] a = inl refl
  no_step (n ∷ ns) a = inl (no_step ns a)

  -- what may hold something is declared
  is_declared : (xs : List Declaration) (n : List ℕ) (c : Content) → declared xs n ≡ Some c → Contains (names xs) n
  is_declared [] n c e = absurd (none_some refl e)
  is_declared (x ∷ xs) n c e = by (bytes_eq x.name n) refl e (λ f. is_declared xs n c f)
    where
      by : (b : Bool) → bytes_eq x.name n ≡ b → (if b then Some x.content else declared xs n) ≡ Some c → (declared xs n ≡ Some c → Contains (names xs) n) → Contains (names (x ∷ xs)) n
      by true f g rec = subst (λ z. Contains (z ∷ names xs) n) (sym (same_bytes x.name n f)) (in_first n (names xs))
      by false f g rec = in_rest x.name (names xs) n (rec g)

  module _ (root : List ℕ) where
    reached : (ns : List (List ℕ)) (a b : List ℕ) → IsReached dtd root a → Way ns a b → IsReached dtd root b
    reached [] a b r (inl e) = subst (IsReached dtd root) e r
    reached [] a b r (inr s) = within r s.is s.holds
    reached (n ∷ ns) a b r (inl w) = reached ns a b r w
    reached (n ∷ ns) a b r (inr w) = reached ns n b (reached ns a n r w.0) w.1

    way_to : {n : List ℕ} → IsReached dtd root n → Way (names dtd) root n
    way_to at_root = no_step (names dtd) root
    way_to (within {n = n} {m = k} {c = c} r e h) =
        joined (names dtd) root n k (is_declared dtd n c e) (way_to r) (one_step (names dtd) n k (record { content = c; is = e; holds = h }))

    reached_here : (n : List ℕ) → Decided (IsReached dtd root n)
    reached_here n = elim (way_here (names dtd) root n) [ inl w ↦ inl (reached (names dtd) root n at_root w) | inr h ↦ inr (λ r. h (way_to r)) ]

    kept_here : (xs : List Declaration) → (kept : List Declaration) × Keeps dtd root xs kept
    kept_here [] = ([], keeps_none)
    kept_here (x ∷ xs) = by (reached_here x.name) (kept_here xs)
      where
        by : Decided (IsReached dtd root x.name) → (kept : List Declaration) × Keeps dtd root xs kept → (kept : List Declaration) × Keeps dtd root (x ∷ xs) kept
        by (inl r) (kept, k) = (x ∷ kept, keeps r k)
        by (inr h) (kept, k) = (kept, leaves h k)

grammar_here : (ds : List Declaration) (root : List ℕ) → (g : Grammar) × IsGrammarOfDtd ds root g
grammar_here ds root = let (kept, k) = kept_here ds root ds in (grammar_with kept root, record { kept = kept; keeps_reached = k; is_grammar = refl })

pub grammar_or_fault : HasGrammarOrFault
grammar_or_fault bytes root = elim (dtd_or_fault bytes) [
  | inl (ds, m) ↦ let (g, i) = grammar_here ds root in inl (ds, (g, (m, i)))
  | inr x ↦ inr x
]
