-- What is known of prefixes, as more is.
use Rattle.std.proofs.Common.{◌≡◌, ℕ, ◌+◌, ◌<◌, ◌≤◌, Bool, true, false, cond, List, [], ◌∷◌, length, map, drop, get_or, refl, sym, subst, ap, ◌∙◌, Option, None, Some, bytes_eq}
use Rattle.std.specs.Borrow.{Bor}
use Rattle.std.specs.BTreeMap.{BTreeMap}
use Rattle.std.specs.Prelude.{MatchOption}
use Rattle.std.proofs.lemmas.List.{drop_more, drop_all}
use Rattle.std.proofs.lemmas.Slice.Eq.{bytes_eq-Decides}
use Rattle.tc_model.specs.RawTrees.{Bound}
use Rattle.tc_model.specs.XmlTextScopes.{uri_of}
use Rattle.tc_model.specs.Views.{bound}
use Rattle.tc_model.specs.declared.tree.Binding.{Binding}
use Rattle.tc_path.specs.Known.{found_in, held, IsRightBefore, AreRight, AreRightBefore}

abbrev pub Held : Type 0
Held = Option (Bor (List ℕ))

abbrev pub Entries : Type 0
Entries = BTreeMap (Bor (List ℕ)) Held

same_bytes : (xs ys : List ℕ) → bytes_eq xs ys ≡ true → xs ≡ ys
same_bytes xs ys e = (bytes_eq-Decides xs ys).0 e

-- what an entry tells
pub told : (scope : List Bound) (prefix : List ℕ) (v : Held) → held v ≡ uri_of scope prefix → MatchOption v (uri_of scope prefix ≡ None) (λ u. uri_of scope prefix ≡ Some u.now)
told scope prefix None e = sym e
told scope prefix (Some u) e = sym e

-- at the end all are right
right_at_end : (scope : List Bound) (prefix : List ℕ) (v : Held) → IsRightBefore scope [] prefix (Some v) → held v ≡ uri_of scope prefix
right_at_end scope prefix None h = sym h
right_at_end scope prefix (Some u) h = sym h

pub are_right_at_end : (scope : List Bound) (known : Entries) → AreRightBefore scope [] known → AreRight scope known
are_right_at_end scope known h p v e = right_at_end scope p v (subst (IsRightBefore scope [] p) e (h p))

-- the binding that comes next
pub next_binding : (scope : List Bound) (bs : List Binding) (i : ℕ) (d : Binding) (known : Entries) → i < length bs → AreRightBefore scope (map bound (drop i bs)) known
    → AreRightBefore scope (bound (get_or bs i d) ∷ map bound (drop (i + 1) bs)) known
next_binding scope bs i d known h a = subst (λ w. AreRightBefore scope (map bound w) known) (drop_more bs i d h) a

-- at the last one all are right
pub no_more : (scope : List Bound) (bs : List Binding) (i : ℕ) (known : Entries) → length bs ≤ i → AreRightBefore scope (map bound (drop i bs)) known → AreRight scope known
no_more scope bs i known h a = are_right_at_end scope known (subst (λ w. AreRightBefore scope (map bound w) known) (drop_all i bs h) a)

-- a prefix more that is sought
pub one_sought : (known more : Entries) (prefix : List ℕ) → ((p : List ℕ) → found_in more p ≡ cond (bytes_eq prefix p) (Some None) (found_in known p)) → (scope : List Bound)
    → AreRightBefore scope scope known → AreRightBefore scope scope more
one_sought known more prefix grown scope h p = subst (IsRightBefore scope scope p) (sym (grown p)) (by (bytes_eq prefix p))
  where
    by : (x : Bool) → IsRightBefore scope scope p (cond x (Some None) (found_in known p))
    by true = refl
    by false = h p

-- past a binding of another prefix
past_other : (scope rest : List Bound) (b : Bound) (p : List ℕ) (o : Option Held) → bytes_eq b.prefix p ≡ false → IsRightBefore scope (b ∷ rest) p o → IsRightBefore scope rest p o
past_other scope rest b p None e h = tt
past_other scope rest b p (Some None) e h = h ∙ ap (λ x. cond x (Some b.uri) (uri_of rest p)) e
past_other scope rest b p (Some (Some u)) e h = h

-- past a binding whose prefix isn't sought
past_unsought : (scope rest : List Bound) (b : Bound) (p : List ℕ) (o : Option Held) → (o ≡ Some None → ⊥) → IsRightBefore scope (b ∷ rest) p o → IsRightBefore scope rest p o
past_unsought scope rest b p None n h = tt
past_unsought scope rest b p (Some None) n h = absurd (n refl)
past_unsought scope rest b p (Some (Some u)) n h = h

pub unsought : (scope rest : List Bound) (b : Bound) (known : Entries) → (found_in known b.prefix ≡ Some None → ⊥) → AreRightBefore scope (b ∷ rest) known → AreRightBefore scope rest known
unsought scope rest b known n h p = by (bytes_eq b.prefix p) refl
  where
    by : (x : Bool) → bytes_eq b.prefix p ≡ x → IsRightBefore scope rest p (found_in known p)
    by true e = past_unsought scope rest b p (found_in known p) (λ f. n (subst (λ q. found_in known q ≡ Some None) (sym (same_bytes b.prefix p e)) f)) (h p)
    by false e = past_other scope rest b p (found_in known p) e (h p)

none_some : {X : Type 0} {x : X} → None ≡ Some x → ⊥
none_some e = cc

some_some : {X : Type 0} {x : X} → Some (Some x) ≡ Some None → ⊥
some_some e = cc

-- what the first binding of a prefix binds
first_bound : (scope rest : List Bound) (b : Bound) (p : List ℕ) (o : Option Held) → o ≡ Some None → bytes_eq b.prefix p ≡ true → IsRightBefore scope (b ∷ rest) p o → uri_of scope p ≡ Some b.uri
first_bound scope rest b p None n e h = absurd (none_some n)
first_bound scope rest b p (Some None) n e h = h ∙ ap (λ x. cond x (Some b.uri) (uri_of rest p)) e
first_bound scope rest b p (Some (Some u)) n e h = absurd (some_some n)

pub sought : (scope rest : List Bound) (b : Bound) (uri : Bor (List ℕ)) (known more : Entries) → uri.now ≡ b.uri → found_in known b.prefix ≡ Some None
    → ((p : List ℕ) → found_in more p ≡ cond (bytes_eq b.prefix p) (Some (Some uri)) (found_in known p)) → AreRightBefore scope (b ∷ rest) known → AreRightBefore scope rest more
sought scope rest b uri known more same n grown h p = subst (IsRightBefore scope rest p) (sym (grown p)) (by (bytes_eq b.prefix p) refl)
  where
    by : (x : Bool) → bytes_eq b.prefix p ≡ x → IsRightBefore scope rest p (cond x (Some (Some uri)) (found_in known p))
    by true e =
        first_bound scope rest b p (found_in known p) (subst (λ q. found_in known q ≡ Some None) (same_bytes b.prefix p e) n) e (h p) ∙ ap Some (sym same)
    by false e = past_other scope rest b p (found_in known p) e (h p)
