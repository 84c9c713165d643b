-- Elements that are declared more than once.
use Rattle.std.proofs.Common.{◌≡◌, ◌+◌, ◌<◌, ◌≤◌, ℕ, Bool, true, false, cond, ◌||◌, not, List, [], ◌∷◌, ◌++◌, refl, ap, ◌∙◌, sym, subst, length, map, take, drop, get_or, bytes_eq, take-append-drop, Bor}
use Rattle.std.specs.List.{IsDistinct, AllByRecursion, Contains, list_any}
use Rattle.std.proofs.lemmas.Bool.{true≢false}
use Rattle.std.proofs.lemmas.List.{drop_more, map-append, take_all, take_more}
use Rattle.indexmap.specs.IndexSet.{insert_key}
use Rattle.tc_dtd.specs.DtdText.{names_of, FirstAgain}
use Rattle.tc_dtd.specs.PlacedViews.{placed}
use Rattle.tc_dtd.specs.Views.{names}
use Rattle.tc_dtd.specs.declared.markup.Placed.{Placed}
use Rattle.tc_dtd.proofs.NamedLaws.{in_first, in_rest, same_bytes}

-- a name that is among others
pub is_among : (n : List ℕ) (ns : List (Bor (List ℕ))) → list_any (λ m. bytes_eq n m.now) ns ≡ true → Contains (names ns) n
is_among n [] e = absurd (true≢false (sym e))
is_among n (m ∷ ms) e = by (bytes_eq n m.now) refl (λ h. is_among n ms h) e
  where
    by : (b : Bool) → bytes_eq n m.now ≡ b → (list_any (λ m. bytes_eq n m.now) ms ≡ true → Contains (names ms) n) → (bytes_eq n m.now || list_any (λ m. bytes_eq n m.now) ms) ≡ true → Contains (names (m ∷ ms)) n
    by true i rec h = subst (λ z. Contains (z ∷ names ms) n) (same_bytes n m.now i) (in_first n (names ms))
    by false i rec h = in_rest m.now (names ms) n (rec (ap (λ b. b || list_any (λ m. bytes_eq n m.now) ms) (sym i) ∙ h))

pub again_at : (found : List Placed) (i : ℕ) (d : Placed) (keys : List (List ℕ)) → i < length found → keys ≡ names_of (map placed (take i found)) → IsDistinct bytes_eq keys
    → Contains keys (get_or found i d).declaration.name.now → FirstAgain (map placed found) (get_or found i d).place.0
again_at found i d keys l e apart h =
    let split : found ≡ take i found ++ get_or found i d ∷ drop (i + 1) found = sym (take-append-drop i found) ∙ ap (λ w. take i found ++ w) (drop_more found i d l) in
    record {
      before = map placed (take i found);
      again = placed (get_or found i d);
      behind = map placed (drop (i + 1) found);
      parts = ap (map placed) split ∙ map-append placed (take i found) (get_or found i d ∷ drop (i + 1) found);
      once = subst (IsDistinct bytes_eq) e apart;
      twice = subst (λ w. Contains w (get_or found i d).declaration.name.now) e h;
      stands = refl;
    }

-- texts of names are the same
abbrev pub same_key : Bor (List ℕ) → Bor (List ℕ) → Bool
same_key a b = bytes_eq a.now b.now

pub none_alike : (keys : List (Bor (List ℕ))) → keys ≡ [] → IsDistinct same_key keys
unfolding IsDistinct
none_alike [] e = tt
none_alike (k ∷ ks) e = absurd (cc)

pub not_new : (b r : Bool) → r ≡ not b → r ≡ true → b ≡ false
not_new true r e f = absurd (true≢false (sym f ∙ e))
not_new false r e f = refl

pub is_old : (b r : Bool) → r ≡ not b → r ≡ false → b ≡ true
is_old true r e f = refl
is_old false r e f = absurd (true≢false (sym e ∙ f))

-- one name more
pub keys_more : (found : List Placed) (i : ℕ) (d : Placed) (keys new : List (Bor (List ℕ))) → i < length found → keys ≡ map (λ x. x.declaration.name) (take i found)
    → list_any (same_key (get_or found i d).declaration.name) keys ≡ false → new ≡ insert_key same_key keys (get_or found i d).declaration.name → new ≡ map (λ x. x.declaration.name) (take (i + 1) found)
keys_more found i d keys new l e none f =
    let name = (get_or found i d).declaration.name in
    f
    ∙ (ap (λ b. cond b keys (keys ++ name ∷ [])) none
    ∙ (ap (λ w. w ++ name ∷ []) e
    ∙ sym (ap (map (λ x. x.declaration.name)) (take_more found i d l) ∙ map-append (λ x. x.declaration.name) (take i found) (get_or found i d ∷ []))))

pub names_seen : (found : List Placed) → names (map (λ x. x.declaration.name) found) ≡ names_of (map placed found)
names_seen [] = refl
names_seen (x ∷ xs) = ap (λ w. x.declaration.name.now ∷ w) (names_seen xs)

apart_seen : (keys : List (Bor (List ℕ))) → IsDistinct same_key keys → IsDistinct bytes_eq (names keys)
unfolding IsDistinct
apart_seen [] u = tt
apart_seen (k ∷ ks) u = (all_seen ks u.0, apart_seen ks u.1)
  where
    all_seen : (xs : List (Bor (List ℕ))) → AllByRecursion (λ y. same_key k y ≡ false) xs → AllByRecursion (λ n. bytes_eq k.now n ≡ false) (names xs)
    all_seen [] a = tt
    all_seen (x ∷ xs) a = (a.0, all_seen xs a.1)

pub apart : (found : List Placed) (keys : List (Bor (List ℕ))) → keys ≡ map (λ x. x.declaration.name) found → IsDistinct same_key keys → IsDistinct bytes_eq (names_of (map placed found))
apart found keys e u = subst (IsDistinct bytes_eq) (ap names e ∙ names_seen found) (apart_seen keys u)

pub found_again : (found : List Placed) (i : ℕ) (d : Placed) (keys : List (Bor (List ℕ))) → i < length found → keys ≡ map (λ x. x.declaration.name) (take i found) → IsDistinct same_key keys
    → list_any (same_key (get_or found i d).declaration.name) keys ≡ true → FirstAgain (map placed found) (get_or found i d).place.0
found_again found i d keys l e u h =
    again_at found i d (names keys) l (ap names e ∙ names_seen (take i found)) (apart_seen keys u) (is_among (get_or found i d).declaration.name.now keys h)

pub all_apart : (found : List Placed) (i : ℕ) (keys : List (Bor (List ℕ))) → length found ≤ i → keys ≡ map (λ x. x.declaration.name) (take i found) → IsDistinct same_key keys
    → IsDistinct bytes_eq (names_of (map placed found))
all_apart found i keys l e u = apart found keys (e ∙ ap (map (λ x. x.declaration.name)) (take_all i found l)) u
