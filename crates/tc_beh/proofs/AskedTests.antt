-- What node tests ask, put once.
use Rattle.std.proofs.Common.{◌≡◌, ◌⊎◌, inl, inr, ◌<◌, ◌+◌, ℕ, zero, suc, List, [], ◌∷◌, ◌++◌, Bool, true, false, ◌&&◌, ◌||◌, cond, refl, ap, sym, ◌∙◌, subst, drop, get_or, length, bytes_eq, arith}
use Rattle.std.specs.List.{list_any}
use Rattle.std.proofs.lemmas.Bool.{true≢false}
use Rattle.std.proofs.lemmas.List.{map-append, drop_more}
use Rattle.std.proofs.lemmas.Slice.Eq.{bytes_eq-Decides}
use Rattle.indexmap.specs.IndexSet.{insert_key}
use Rattle.tc_model.specs.Names.{ExpandedName, same_name}
use Rattle.tc_model.specs.Sheets as s
use Rattle.tc_model.specs.Views as see
use Rattle.tc_model.specs.declared.sheet.NodeTest.{NodeTest}
use Rattle.tc_alpha.proofs.Members.{Has, has_front, has_back, has_either, has_from_contains, contains_from_has}
use Rattle.tc_alpha.proofs.Orders.{same_parts}
use Rattle.tc_beh.specs.AlikeSymbols.{AreAsked, Asks, IsPut, asked_test, asked_tests, seen}
use Rattle.tc_beh.specs.declared.node_tests.Asked.{Asked}
use Rattle.tc_beh.specs.declared.node_tests.Asked.TheVariants.{Name, Namespace}
use Rattle.tc_beh.specs.contracts.node_tests.AskedPartialEq.TheImpl.{eq-value}

both_true : (a b : Bool) → (a && b) ≡ true → (a ≡ true) × (b ≡ true)
both_true true b e = (refl, e)
both_true false b e = absurd (true≢false (sym e))

same_bytes : (xs ys : List ℕ) → bytes_eq xs ys ≡ true → xs ≡ ys
same_bytes xs ys e = (bytes_eq-Decides xs ys).0 e

one_name : (n m : ExpandedName) → same_name n m ≡ true → n ≡ m
one_name n m e =
    let (uri, local) = both_true (bytes_eq n.uri m.uri) (bytes_eq n.local m.local) e in
    same_parts n m (same_bytes n.uri m.uri uri) (same_bytes n.local m.local local)

-- what is found equal asks the same
one_test : (a b : Asked) → (eq-value).it a b ≡ true → asked_test a ≡ asked_test b
one_test (Name n) (Name m) e = ap s.of_name (one_name (see.name n) (see.name m) e)
one_test (Name n) (Namespace v) e = absurd (true≢false (sym e))
one_test (Namespace u) (Name m) e = absurd (true≢false (sym e))
one_test (Namespace u) (Namespace v) e = ap s.of_namespace (same_bytes u.now v.now e)

found : (a : Asked) (ks : List Asked) → list_any ((eq-value).it a) ks ≡ true → Has (asked_tests ks) (asked_test a)
found a [] e = absurd (true≢false (sym e))
found a (k ∷ ks) e = by ((eq-value).it a k) refl (found a ks)
  where
    by : (b : Bool) → (eq-value).it a k ≡ b → (list_any ((eq-value).it a) ks ≡ true → Has (asked_tests ks) (asked_test a)) → Has (asked_tests (k ∷ ks)) (asked_test a)
    by true is rest = inl (sym (one_test a k is))
    by false is rest = inr (rest (sym (ap (λ c. c || list_any ((eq-value).it a) ks) is) ∙ e))

-- the keys of a set with one more
module _ (a : Asked) (t : s.NodeTest) (asks : asked_test a ≡ t) (ks : List Asked) where
  by_members : (new : List s.NodeTest) → ((u : s.NodeTest) → Has new u → Has (asked_tests ks) u ⊎ (u ≡ t)) → ((u : s.NodeTest) → Has (asked_tests ks) u → Has new u) → Has new t → IsPut (asked_tests ks) t new
  by_members new from kept there = record {
    from = λ u h. elim (from u (has_from_contains new u h)) [ inl c ↦ inl (contains_from_has (asked_tests ks) u c) | inr e ↦ inr e ];
    kept = λ u h. contains_from_has new u (kept u (has_from_contains (asked_tests ks) u h));
    there = λ y. contains_from_has new t there;
  }

  pushed : IsPut (asked_tests ks) t (asked_tests (ks ++ a ∷ []))
  pushed = subst (IsPut (asked_tests ks) t) (sym (map-append asked_test ks (a ∷ []))) (by_members (asked_tests ks ++ asked_test a ∷ []) from
      (λ u h. has_front (asked_tests ks) (asked_test a ∷ []) u h) (has_back (asked_tests ks) (asked_test a ∷ []) t (inl asks)))
    where
      last : (u : s.NodeTest) → Has (asked_test a ∷ []) u → u ≡ t
      last u (inl e) = sym e ∙ asks
      last u (inr h) = absurd h

      from : (u : s.NodeTest) → Has (asked_tests ks ++ asked_test a ∷ []) u → Has (asked_tests ks) u ⊎ (u ≡ t)
      from u h = elim (has_either (asked_tests ks) (asked_test a ∷ []) u h) [ inl c ↦ inl c | inr c ↦ inr (last u c) ]

  pub is_put : (new : List Asked) → new ≡ insert_key (eq-value).it ks a → IsPut (asked_tests ks) t (asked_tests new)
  is_put new e = subst (λ l. IsPut (asked_tests ks) t (asked_tests l)) (sym e) (by (list_any ((eq-value).it a) ks) refl)
    where
      by : (b : Bool) → list_any ((eq-value).it a) ks ≡ b → IsPut (asked_tests ks) t (asked_tests (cond b ks (ks ++ a ∷ [])))
      by true is = by_members (asked_tests ks) (λ u h. inl h) (λ u h. h) (subst (Has (asked_tests ks)) asks (found a ks is))
      by false is = pushed

-- nothing is put for a test that asks nothing
pub none_put : (old : List s.NodeTest) (t : s.NodeTest) → ¬ Asks t → IsPut old t old
none_put old t silent = record { from = λ u h. inl h; kept = λ u h. h; there = λ a. absurd (silent a) }

-- so far
pub record AreSoFar (tests left asked : List s.NodeTest) : Type 0 where
  pub each : (t : s.NodeTest) → Has asked t → Has tests t
  pub all : (t : s.NodeTest) → Asks t → Has tests t → Has asked t ⊎ Has left t

pub none_so_far : (tests : List s.NodeTest) → AreSoFar tests tests []
none_so_far tests = record { each = λ t h. absurd h; all = λ t a h. inr h }

module _ (ts : List NodeTest) (i : ℕ) (t : NodeTest) (low : i < length ts) (here : t ≡ get_or ts i t) where
  left_is : drop i ts ≡ t ∷ drop (i + 1) ts
  left_is = drop_more ts i t low ∙ ap (λ d. d ∷ drop (i + 1) ts) (sym here)

  has_at : (us : List NodeTest) (j : ℕ) → j < length us → Has (seen us) (see.node_test (get_or us j t))
  has_at [] j l = absurd (omega (arith, l))
  has_at (u ∷ us) zero l = inl refl
  has_at (u ∷ us) (suc j) l = inr (has_at us j (omega (arith, l)))

  pub one_more : (old new : List s.NodeTest) → AreSoFar (seen ts) (seen (drop i ts)) old → IsPut old (see.node_test t) new → AreSoFar (seen ts) (seen (drop (i + 1) ts)) new
  one_more old new before put = record { each = each; all = all }
    where
      there : (u : s.NodeTest) → u ≡ see.node_test t → Has (seen ts) u
      there u e = subst (Has (seen ts)) (sym (e ∙ ap see.node_test here)) (has_at ts i low)

      each : (u : s.NodeTest) → Has new u → Has (seen ts) u
      each u h = elim (put.from u (contains_from_has new u h)) [ inl c ↦ before.each u (has_from_contains old u c) | inr e ↦ there u e ]

      kept : (u : s.NodeTest) → Has old u → Has new u
      kept u h = has_from_contains new u (put.kept u (contains_from_has old u h))

      now : (u : s.NodeTest) → Asks u → see.node_test t ≡ u → Has new u
      now u a e = subst (Has new) e (has_from_contains new (see.node_test t) (put.there (subst Asks (sym e) a)))

      all : (u : s.NodeTest) → Asks u → Has (seen ts) u → Has new u ⊎ Has (seen (drop (i + 1) ts)) u
      all u a h = elim (before.all u a h) [
        | inl c ↦ inl (kept u c)
        | inr c ↦ elim (subst (λ l. Has (seen l) u) left_is c) as (λ _. Has new u ⊎ Has (seen (drop (i + 1) ts)) u) [ inl e ↦ inl (now u a e) | inr later ↦ inr later ]
      ]

pub all_asked : (tests asked : List s.NodeTest) → AreSoFar tests [] asked → AreAsked tests asked
all_asked tests asked are = record {
  each = λ t h. contains_from_has tests t (are.each t (has_from_contains asked t h));
  all = λ t a h. elim (are.all t a (has_from_contains tests t h)) [ inl c ↦ contains_from_has asked t c | inr c ↦ absurd c ];
}
