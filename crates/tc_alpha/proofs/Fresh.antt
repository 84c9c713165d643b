-- The name that stands for a symbol.
use Rattle.std.proofs.Common.{◌≡◌, ℕ, zero, suc, ◌+◌, ◌-◌, ◌<◌, ◌≤◌, List, [], ◌∷◌, ◌++◌, length, Some, None, Option, slice_get, refl, ap, sym, subst, ◌∙◌, ◌⊎◌, inl, inr, Bool, true, false, cond, arith, leb, codes, IsTrue, append_assoc, length-append}
use Rattle.std.proofs.lemmas.Bool.Decides.{nat_tests}
use lib.Utf8.{encode, encodes}
use Rattle.std.specs.List.{list_all}
use Rattle.tc_base.specs.Characters.{is_char}
use Rattle.tc_model.specs.Names.{ExpandedName, IsName, IsNamespaceName, IsNcName, is_ncname_char}
use Rattle.tc_model.specs.Symbols.{Mention, a_name, a_namespace, place_of, is_mentioned, symbol_of, letters_n as ns, IsFirstFree, AreFirstFree, lengthened, free_local, free_namespace, fresh_for, fresh_name, symbols_of, AreSymbols}
use Rattle.tc_alpha.proofs.Orders.{same_parts}
use Rattle.tc_alpha.proofs.Members.{Has, has_from_contains, contains_from_has}
use Rattle.tc_alpha.proofs.Places.{place_has, place_at, place_absent, has_placed}
use Rattle.tc_model.specs.Grammars.{Grammar, IsGrammar}
use Rattle.tc_model.specs.Sheets.{Sheet}
use Rattle.tc_model.specs.WellFormed.{IsSheet}
use Rattle.tc_alpha.proofs.Lawful.{IsLawful, are_lawful}
use Rattle.tc_alpha.proofs.Alike.{either, own_symbol, shared_symbol, is_taken, is_free}

nothing_more : (t : List ℕ) → t ≡ t ++ []
nothing_more [] = refl
nothing_more (c ∷ t) = ap (λ l. c ∷ l) (nothing_more t)

lengthened_by : (taken : List ℕ → Bool) (more : ℕ) (t : List ℕ) → (j : ℕ) × (lengthened taken more t ≡ t ++ ns j)
lengthened_by taken zero t = (0, nothing_more t)
lengthened_by taken (suc more) t =
    elim (taken t) as (λ b. (j : ℕ) × (cond b (lengthened taken more (t ++ 110 ∷ [])) t ≡ t ++ ns j)) [
      | true ↦ let longer = lengthened_by taken more (t ++ 110 ∷ []) in (suc longer.0, longer.1 ∙ append_assoc t (110 ∷ []) (ns longer.0))
      | false ↦ (0, nothing_more t)
    ]

-- a text that is free stays, and one that is taken grows
pub stays : (taken : List ℕ → Bool) (more : ℕ) (t : List ℕ) → taken t ≡ false → lengthened taken more t ≡ t
stays taken zero t e = refl
stays taken (suc more) t e = ap (λ b. cond b (lengthened taken more (t ++ 110 ∷ [])) t) e

pub grows : (taken : List ℕ → Bool) (more : ℕ) (t : List ℕ) → taken t ≡ true → lengthened taken (suc more) t ≡ lengthened taken more (t ++ 110 ∷ [])
grows taken more t e = ap (λ b. cond b (lengthened taken more (t ++ 110 ∷ [])) t) e

-- one more was tried
pub one_tried : (taken : List ℕ → Bool) (most tried : ℕ) (t longer whole : List ℕ) → tried < most → taken t ≡ true → longer ≡ t ++ 110 ∷ [] → lengthened taken (most - tried) t ≡ whole
    → lengthened taken (most - (tried + 1)) longer ≡ whole
one_tried taken most tried t longer whole low e is so_far =
    let left : most - tried ≡ suc (most - (tried + 1)) = omega arith in
    ap (lengthened taken (most - (tried + 1))) is ∙ (sym (grows taken (most - (tried + 1)) t e) ∙ (ap (λ k. lengthened taken k t) (sym left) ∙ so_far))

true_or_false : (b : Bool) → (b ≡ true) ⊎ (b ≡ false)
true_or_false true = inl refl
true_or_false false = inr refl

-- what was tried before it was taken
abbrev TriedBefore : (List ℕ → Bool) → List ℕ → ℕ → Type 0
TriedBefore taken t j = (i : ℕ) → i < j → taken (t ++ ns i) ≡ true

tried_more : (taken : List ℕ → Bool) (t : List ℕ) (j : ℕ) → taken t ≡ true → TriedBefore taken (t ++ 110 ∷ []) j → TriedBefore taken t (suc j)
tried_more taken t j e before zero low = ap taken (sym (nothing_more t)) ∙ e
tried_more taken t j e before (suc i) low = ap taken (sym (append_assoc t (110 ∷ []) (ns i))) ∙ before i (omega arith)

lengthened_first : (taken : List ℕ → Bool) (more : ℕ) (t : List ℕ) → (j : ℕ) × (lengthened taken more t ≡ t ++ ns j) × TriedBefore taken t j
lengthened_first taken zero t = (0, nothing_more t, λ i low. absurd (omega arith))
lengthened_first taken (suc more) t = by (true_or_false (taken t)) (lengthened_first taken more (t ++ 110 ∷ []))
  where
    by : (taken t ≡ true) ⊎ (taken t ≡ false) → (j : ℕ) × (lengthened taken more (t ++ 110 ∷ []) ≡ (t ++ 110 ∷ []) ++ ns j) × TriedBefore taken (t ++ 110 ∷ []) j → (j : ℕ) × (lengthened taken (suc more) t ≡ t ++ ns j) × TriedBefore taken t j
    by (inl e) (j, is, before) = (suc j, grows taken more t e ∙ (is ∙ append_assoc t (110 ∷ []) (ns j)), tried_more taken t j e before)
    by (inr e) rest = (0, stays taken (suc more) t e ∙ nothing_more t, λ i low. absurd (omega arith))

encodes_ns : (j : ℕ) → encodes (ns j) ≡ ns j
unfolding encode
encodes_ns zero = refl
encodes_ns (suc j) = ap (λ l. 110 ∷ l) (encodes_ns j)

all_name_chars : (j : ℕ) → IsTrue (list_all is_ncname_char (ns j))
all_name_chars zero = refl
all_name_chars (suc j) = all_name_chars j

all_chars : (j : ℕ) → IsTrue (list_all is_char (ns j))
all_chars zero = refl
all_chars (suc j) = all_chars j

ncname : (j : ℕ) → IsNcName (codes "n" ++ ns j)
unfolding encode
ncname j = (110, ns j, ap (λ l. 110 ∷ l) (encodes_ns j), refl, all_name_chars j)

abbrev first_byte : List ℕ → ℕ
first_byte [] = 0
first_byte (c ∷ cs) = c

namespace : (j : ℕ) → IsNamespaceName (codes "urn:n" ++ ns j)
unfolding encode
namespace j = ((codes "urn:n" ++ ns j, ap (λ l. codes "urn:n" ++ l) (encodes_ns j), all_chars j), λ e. let differ : 117 ≡ 104 = ap first_byte e in omega arith)

lawful_local : (taken : List ℕ → Bool) (more : ℕ) → IsNcName (lengthened taken more (codes "n"))
lawful_local taken more = let by = lengthened_by taken more (codes "n") in subst IsNcName (sym by.1) (ncname by.0)

lawful_uri : (taken : List ℕ → Bool) (more : ℕ) → IsNamespaceName (lengthened taken more (codes "urn:n"))
lawful_uri taken more = let by = lengthened_by taken more (codes "urn:n") in subst IsNamespaceName (sym by.1) (namespace by.0)

abbrev text_of : Mention → List ℕ
text_of (a_name n) = n.local
text_of (a_namespace u) = u

-- how many have a text of at least this length
abbrev longer : ℕ → List Mention → ℕ
longer k [] = 0
longer k (x ∷ xs) = cond (leb k (length (text_of x))) 1 0 + longer k xs

longer_most : (k : ℕ) (xs : List Mention) → longer k xs ≤ length xs
longer_most k [] = omega arith
longer_most k (x ∷ xs) =
    let rest = longer_most k xs in
    elim (leb k (length (text_of x))) as (λ b. cond b 1 0 + longer k xs ≤ length (x ∷ xs)) [ true ↦ omega arith | false ↦ omega arith ]

less_at : (k l : ℕ) → cond (leb (k + 1) l) 1 0 ≤ cond (leb k l) 1 0
less_at k l = grind (arith, nat_tests)

longer_less : (k : ℕ) (xs : List Mention) → longer (k + 1) xs ≤ longer k xs
longer_less k [] = omega arith
longer_less k (x ∷ xs) = omega (arith, less_at k (length (text_of x)), longer_less k xs)

drops_at : (k : ℕ) → cond (leb (k + 1) k) 1 0 + 1 ≤ cond (leb k k) 1 0
drops_at k = grind (arith, nat_tests)

longer_drops : (m : Mention) (xs : List Mention) → Has xs m → longer (length (text_of m) + 1) xs + 1 ≤ longer (length (text_of m)) xs
longer_drops m [] h = absurd h
longer_drops m (x ∷ xs) (inl e) =
    let at : cond (leb (length (text_of m) + 1) (length (text_of x))) 1 0 + 1 ≤ cond (leb (length (text_of m)) (length (text_of x))) 1 0 =
    subst (λ (y : Mention). cond (leb (length (text_of m) + 1) (length (text_of y))) 1 0 + 1 ≤ cond (leb (length (text_of m)) (length (text_of y))) 1 0) (sym e) (drops_at (length (text_of m)))
    in
    omega (arith, at, longer_less (length (text_of m)) xs)
longer_drops m (x ∷ xs) (inr h) = omega (arith, longer_drops m xs h, less_at (length (text_of m)) (length (text_of x)))

module _ (key : List ℕ → Mention) (reads : (t : List ℕ) → text_of (key t) ≡ t) (xs : List Mention) where
  abbrev taken : List ℕ → Bool
  taken t = is_mentioned (key t) xs

  drops : (t : List ℕ) → Has xs (key t) → longer (length t + 1) xs + 1 ≤ longer (length t) xs
  drops t h = let P : List ℕ → Type 0 = λ u. longer (length u + 1) xs + 1 ≤ longer (length u) xs in subst P (reads t) (longer_drops (key t) xs h)

  one_longer : (t : List ℕ) → longer (length (t ++ 110 ∷ [])) xs ≡ longer (length t + 1) xs
  one_longer t = ap (λ k. longer k xs) (length-append t (110 ∷ []))

  -- among so many texts one is free
  free : (more : ℕ) (t : List ℕ) → longer (length t) xs ≤ more → place_of (key (lengthened taken more t)) xs ≡ length xs
  free zero t h = elim (either (key t) xs) [ inl low ↦ absurd (omega (arith, drops t (has_placed (key t) xs low))) | inr none ↦ none ]
  free (suc more) t h =
      elim (either (key t) xs) [
        | inl low ↦
            let less = drops t (has_placed (key t) xs low) in
            let same = one_longer t in
            let next : longer (length (t ++ 110 ∷ [])) xs ≤ more = omega arith in
            ap (λ b. place_of (key (cond b (lengthened taken more (t ++ 110 ∷ [])) t)) xs) (is_taken (place_of (key t) xs) (length xs) low) ∙ free more (t ++ 110 ∷ []) next
        | inr none ↦ ap (λ b. place_of (key (cond b (lengthened taken more (t ++ 110 ∷ [])) t)) xs) (is_free (place_of (key t) xs) (length xs) none) ∙ none
      ]

  pub free_in_all : (t : List ℕ) → place_of (key (lengthened taken (length xs) t)) xs ≡ length xs
  free_in_all t = free (length xs) t (longer_most (length t) xs)

  pub first_free : (t : List ℕ) → IsFirstFree taken t (lengthened taken (length xs) t)
  first_free t = let (j, is, before) = lengthened_first taken (length xs) t in (j, is, is_free (place_of (key (lengthened taken (length xs) t)) xs) (length xs) (free_in_all t), before)

pub are_first_free : AreFirstFree
are_first_free xs = (λ u. first_free (λ local. a_name (record { uri = u; local = local })) (λ t. refl) xs (codes "n"), first_free a_namespace (λ t. refl) xs (codes "urn:n"))

get_below : (xs : List Mention) (k : ℕ) (m : Mention) → slice_get xs k ≡ Some m → k < length xs
get_below [] k m e = cc
get_below (x ∷ xs) zero m e = omega arith
get_below (x ∷ xs) (suc k) m e = omega (arith, get_below xs k m e)

get_beyond : (xs : List Mention) (k : ℕ) → slice_get xs k ≡ None → length xs ≤ k
get_beyond [] k e = omega arith
get_beyond (x ∷ xs) zero e = cc
get_beyond (x ∷ xs) (suc k) e = omega (arith, get_beyond xs k e)

get_has : (xs : List Mention) (k : ℕ) (m : Mention) → slice_get xs k ≡ Some m → Has xs m
get_has [] k m e = cc
get_has (x ∷ xs) zero m e = let first : x ≡ m = cc in inl first
get_has (x ∷ xs) (suc k) m e = inr (get_has xs k m e)

module _ (xs : List Mention) (ok : AreSymbols xs) where
  symbol_for : (k : ℕ) (o : Option Mention) → slice_get xs k ≡ o → k < length xs + 1 → symbol_of xs (fresh_for xs o) ≡ k
  symbol_for k (Some (a_name n)) e h =
      let at = place_at xs k (a_name n) (AreSymbols.rise ok) e in
      let below = get_below xs k (a_name n) e in
      let low : place_of (a_name n) xs < length xs = omega arith in
      own_symbol xs n low ∙ at
  symbol_for k (Some (a_namespace u)) e h =
      let n : ExpandedName = record { uri = u; local = free_local xs u } in
      let none : place_of (a_name n) xs ≡ length xs = free_in_all (λ local. a_name (record { uri = u; local = local })) (λ t. refl) xs (codes "n") in
      shared_symbol xs n none ∙ place_at xs k (a_namespace u) (AreSymbols.rise ok) e
  symbol_for k None e h =
      let n : ExpandedName = record { uri = free_namespace xs; local = codes "n" } in
      let none : place_of (a_namespace n.uri) xs ≡ length xs = free_in_all a_namespace (λ t. refl) xs (codes "urn:n") in
      let beyond = get_beyond xs k e in
      let last : length xs ≡ k = omega arith in
      let absent : place_of (a_name n) xs ≡ length xs = place_absent (a_name n) xs (λ x has is. unknown n none (subst (Has xs) (sym is) has)) in
      shared_symbol xs n absent ∙ (none ∙ last)
    where
      unknown : (n : ExpandedName) → place_of (a_namespace n.uri) xs ≡ length xs → Has xs (a_name n) → ⊥
      unknown n none has =
          let low = place_has (a_namespace n.uri) xs (has_from_contains xs (a_namespace n.uri) (AreSymbols.closed ok n (contains_from_has xs (a_name n) has))) in
          omega arith

  -- the symbol of the name that stands for a symbol
  pub symbol_of_fresh : (k : ℕ) → k < length xs + 1 → symbol_of xs (fresh_name xs k) ≡ k
  symbol_of_fresh k h = symbol_for k (slice_get xs k) refl h

module _ (xs : List Mention) (lawful : (m : Mention) → Has xs m → IsLawful m) where
  lawful_for : (k : ℕ) (o : Option Mention) → slice_get xs k ≡ o → IsName (fresh_for xs o)
  lawful_for k (Some (a_name n)) e = lawful (a_name n) (get_has xs k (a_name n) e)
  lawful_for k (Some (a_namespace u)) e = (lawful (a_namespace u) (get_has xs k (a_namespace u) e), lawful_local (λ local. is_mentioned (a_name (record { uri = u; local = local })) xs) (length xs))
  lawful_for k None e = (lawful_uri (λ uri. is_mentioned (a_namespace uri) xs) (length xs), ncname 0)

  lawful_fresh : (k : ℕ) → IsName (fresh_name xs k)
  lawful_fresh k = lawful_for k (slice_get xs k) refl

-- the name by what stands at the symbol's place
pub named : (xs : List Mention) (k : ℕ) (m n : ExpandedName) → slice_get xs k ≡ Some (a_name m) → n ≡ m → n ≡ fresh_name xs k
named xs k m n found e = e ∙ ap (fresh_for xs) (sym found)

pub spaced : (xs : List Mention) (k : ℕ) (u : List ℕ) (n : ExpandedName) → slice_get xs k ≡ Some (a_namespace u) → n.uri ≡ u → n.local ≡ free_local xs u → n ≡ fresh_name xs k
spaced xs k u n found e f = same_parts n (record { uri = u; local = free_local xs u }) e f ∙ ap (fresh_for xs) (sym found)

pub last : (xs : List Mention) (k : ℕ) (n : ExpandedName) → slice_get xs k ≡ None → n.uri ≡ free_namespace xs → n.local ≡ codes "n" → n ≡ fresh_name xs k
last xs k n found e f = same_parts n (record { uri = free_namespace xs; local = codes "n" }) e f ∙ ap (fresh_for xs) (sym found)

-- what is told of that name
pub lawful_told : (xs : List Mention) (k : ℕ) (n : ExpandedName) → n ≡ fresh_name xs k
    → (input output : Grammar) (sheet : Sheet) → IsGrammar input → IsGrammar output → IsSheet sheet → xs ≡ symbols_of input output sheet → IsName n
lawful_told xs k n e input output sheet a b c stands =
    let all : (m : Mention) → Has xs m → IsLawful m = subst (λ ys. (m : Mention) → Has ys m → IsLawful m) (sym stands) (are_lawful input output sheet a b c) in
    subst IsName (sym e) (lawful_fresh xs all k)

pub symbol_told : (xs : List Mention) → AreSymbols xs → (k : ℕ) → k < length xs + 1 → (n : ExpandedName) → n ≡ fresh_name xs k → symbol_of xs n ≡ k
symbol_told xs ok k h n e = ap (symbol_of xs) e ∙ symbol_of_fresh xs ok k h
