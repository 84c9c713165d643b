-- The first symbol that has each key, and that it is the first that is alike.
use Rattle.std.proofs.Common.{◌≡◌, ◌<◌, ◌⊎◌, inl, inr, ◌+◌, ◌++◌, ◌∷◌, [], ℕ, List, Bool, true, false, cond, Option, None, Some, slice_get, length, refl, ap, sym, ◌∙◌, subst, arith}
use Rattle.std.proofs.lemmas.Bool.{true≢false}
use Rattle.std.specs.Bool.{beq}
use Rattle.std.specs.Cmp.Lexicographic.{pointwise}
use Rattle.std.specs.Global.{Vec}
use Rattle.indexmap.specs.IndexMap.{IndexMap, IsEmpty, Updates, get}
use Rattle.std.specs.Map.{lookup}
use Rattle.tc_model.specs.Sheets.{NodeTest}
use Rattle.tc_model.specs.Symbols.{node_tests}
use Rattle.tc_rows.specs.Triples.{Triple, sheet}
use Rattle.tc_beh.specs.AlikeSymbols.{AreAsked, AreFirstsKnown, IsFirst, IsFirstAlike, IsToldFirst, key, same_key}
use Rattle.tc_beh.proofs.AlikeLaws.{key_of_alike, alike_of_key}
use Rattle.tc_beh.proofs.KeyLists.{bits_exact, bits_itself, pushed_at}

pub first_alike : (x : Triple) (ts : List NodeTest) (a first : ℕ) → AreAsked (node_tests (sheet x)) ts → IsFirst (key x ts) a first → IsFirstAlike x a first
first_alike x ts a first are is = record {
  low = is.low;
  alike = alike_of_key x ts first a are is.same;
  least = λ b low alike. is.least b low (key_of_alike x ts b a are alike);
}

last : (b n : ℕ) → b < n + 1 → (b < n) ⊎ (b ≡ n)
last b n l = grind (arith, l)

module _ (key_at : ℕ → List Bool) (n : ℕ) where
  -- one symbol more, of another key
  other_told : (bits : List Bool) (o : Option ℕ) → ¬ (key_at n ≡ bits) → IsToldFirst key_at n bits o → IsToldFirst key_at (n + 1) bits o
  other_told bits None other never = λ b low e. elim (last b n low) [ inl l ↦ never b l e | inr is ↦ other (sym (ap key_at is) ∙ e) ]
  other_told bits (Some f) other (low, same, least) = (omega (arith, low), same, least)

  -- one symbol more, of a key that is known
  known_told : (bits : List Bool) (f : ℕ) (o : Option ℕ) → f < n → key_at f ≡ key_at n → IsToldFirst key_at n bits o → IsToldFirst key_at (n + 1) bits o
  known_told bits f None few same never = other_told bits None (λ e. never f few (same ∙ e)) never
  known_told bits f (Some g) few same (low, is, least) = (omega (arith, low), is, least)

  module _ {S : Type 0} (old : IndexMap (Vec Bool) ℕ S) (k : Vec Bool) (knows : AreFirstsKnown key_at old n) (here : key_at n ≡ k.items) where
    pub known_first : (f : ℕ) → get same_key old k ≡ Some f → AreFirstsKnown key_at old (n + 1) × IsFirst key_at n f
    known_first f at =
        let (low, same, least) = told in (
          λ j. known_told j.items f (get same_key old j) low (same ∙ sym here) (knows j),
          record { low = omega (arith, low); same = same ∙ sym here; least = λ b l e. least b l (e ∙ here) },
        )
      where
        told : IsToldFirst key_at n k.items (Some f)
        told = subst (IsToldFirst key_at n k.items) at (knows k)

    pub new_first : (new : IndexMap (Vec Bool) ℕ S) → get same_key old k ≡ None → Updates same_key old new k (Some n) → AreFirstsKnown key_at new (n + 1) × IsFirst key_at n n
    new_first new at u = (
      λ j. subst (IsToldFirst key_at (n + 1) j.items) (sym (u.0 j)) (by j (same_key k j) refl),
      record { low = omega arith; same = refl; least = λ b l e. never b l (e ∙ here) },
    )
      where
        never : (b : ℕ) → b < n → ¬ (key_at b ≡ k.items)
        never = subst (IsToldFirst key_at n k.items) at (knows k)

        differs : (j : Vec Bool) → same_key k j ≡ false → ¬ (key_at n ≡ j.items)
        differs j apart e = true≢false (sym (subst (λ l. pointwise beq k.items l ≡ true) (sym here ∙ e) (bits_itself k.items)) ∙ apart)

        by : (j : Vec Bool) (t : Bool) → same_key k j ≡ t → IsToldFirst key_at (n + 1) j.items (cond t (Some n) (get same_key old j))
        by j true equal = let same : k.items ≡ j.items = bits_exact k.items j.items equal in (omega arith, here ∙ same, λ b l e. never b l (e ∙ sym same))
        by j false apart = other_told j.items (get same_key old j) (differs j apart) (knows j)

-- no key is known of no symbol
pub none_known : {S : Type 0} (key_at : ℕ → List Bool) (known : IndexMap (Vec Bool) ℕ S) → IsEmpty known → AreFirstsKnown key_at known 0
none_known key_at known none k = subst (IsToldFirst key_at 0 k.items) (sym (ap (λ es. lookup (same_key k) es) none)) (λ b low e. omega (arith, low))

-- the first symbols, with one more
pub firsts_more : (key_at : ℕ → List Bool) (old new : List ℕ) (first n : ℕ) → length old ≡ n → new ≡ old ++ first ∷ [] → ((a f : ℕ) → slice_get old a ≡ Some f → IsFirst key_at a f) → IsFirst key_at n first → (a f : ℕ) → slice_get new a ≡ Some f
    → IsFirst key_at a f
firsts_more key_at old new first n count pushed before here a f at =
    elim (pushed_at old first a f (subst (λ w. slice_get w a ≡ Some f) pushed at)) [
      | inl e ↦ before a f e
      | inr (place, e) ↦ subst (λ w. IsFirst key_at w f) (sym (place ∙ count)) (subst (IsFirst key_at n) e here)
    ]
