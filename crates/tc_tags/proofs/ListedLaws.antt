-- Names of attributes that differ from one another, and which of them are among others.
use Rattle.std.proofs.Common.{◌≡◌, ℕ, zero, suc, ◌+◌, ◌<◌, Bool, true, false, cond, ◌||◌, ◌&&◌, List, [], ◌∷◌, ◌++◌, refl, ap, ◌∙◌, sym, subst, length, take, drop, reverse, get_or, Option, None, Some, bytes_eq, take-append-drop, append-nil, map, MatchBool}
use Rattle.std.specs.Prelude.{unwrap_or}
use Rattle.std.specs.List.{IsDistinct, AllByRecursion, list_any}
use Rattle.std.specs.Cmp.Lexicographic.{bytes_decides}
use Rattle.std.proofs.lemmas.Bool.{true≢false}
use Rattle.std.proofs.lemmas.List.{reverse-append, map-append, map_more, take_more, drop_more, get_or-map, length-map}
use Rattle.tc_tags.specs.Chained.{chain_of, first_such}
use Rattle.tc_tags.specs.Listed.{Parts, same_parts, uri_bytes, parts, chain_of_parts, chains_of_parts, has_parts, parts_before, all_parts, shown, is_among, is_declared, HasNoPrefix}
use Rattle.tc_tags.specs.Pairs.{Pair, same_pair}
use Rattle.tc_tags.specs.declared.attributes.Attribute.{Attribute}
use Rattle.tc_tags.specs.Scoped.{bound_by}
use Rattle.tc_tags.specs.declared.attributes.Sort.{Sort}
use Rattle.tc_tags.specs.declared.attributes.Sort.TheVariants.{Written, Expanded}
use Rattle.tc_tags.specs.Spans.{at_span}
use Rattle.tc_tags.specs.declared.scopes.Declared.{Declared}
use Rattle.tc_tags.proofs.ChainLaws.{Follows}

both_true : (x y : Bool) → x && y ≡ true → (x ≡ true) × (y ≡ true)
both_true true true e = (refl, refl)
both_true true false e = absurd (true≢false (sym e))
both_true false y e = absurd (true≢false (sym e))

-- what is searched from the last on is there
some_none : {A : Type 0} {d : A} → Some d ≡ None → ⊥
some_none e = cc

such_is : {A : Type 0} (test : A → Bool) (xs : List A) (d : A) → first_such test xs ≡ Some d → list_any test xs ≡ true
such_is test [] d e = absurd (some_none (sym e))
such_is test (x ∷ xs) d e = by (test x) refl (such_is test xs d)
  where
    by : (b : Bool) → test x ≡ b → (first_such test xs ≡ Some d → list_any test xs ≡ true) → test x || list_any test xs ≡ true
    by true f more = ap (λ b. b || list_any test xs) f
    by false f more = ap (λ b. b || list_any test xs) f ∙ more (sym (ap (λ b. cond b (Some x) (first_such test xs)) f) ∙ e)

none_such : {A : Type 0} (test : A → Bool) (xs : List A) → first_such test xs ≡ None → list_any test xs ≡ false
none_such test [] e = refl
none_such test (x ∷ xs) e = by (test x) refl (none_such test xs)
  where
    by : (b : Bool) → test x ≡ b → (first_such test xs ≡ None → list_any test xs ≡ false) → test x || list_any test xs ≡ false
    by true f more = absurd (some_none (sym (ap (λ b. cond b (Some x) (first_such test xs)) f) ∙ e))
    by false f more = ap (λ b. b || list_any test xs) f ∙ more (sym (ap (λ b. cond b (Some x) (first_such test xs)) f) ∙ e)

any_append : {A : Type 0} (test : A → Bool) (xs ys : List A) → list_any test (xs ++ ys) ≡ list_any test xs || list_any test ys
any_append test [] ys = refl
any_append test (x ∷ xs) ys = by (test x) (any_append test xs ys)
  where
    by : (b : Bool) → list_any test (xs ++ ys) ≡ list_any test xs || list_any test ys → b || list_any test (xs ++ ys) ≡ (b || list_any test xs) || list_any test ys
    by true e = refl
    by false e = e

any_reverse : {A : Type 0} (test : A → Bool) (xs : List A) → list_any test (reverse xs) ≡ list_any test xs
any_reverse test [] = refl
any_reverse test (x ∷ xs) =
    ap (list_any test) (reverse-append (x ∷ []) xs)
    ∙ (any_append test (reverse xs) (x ∷ []) ∙ (ap (λ b. b || (test x || false)) (any_reverse test xs) ∙ turned (list_any test xs) (test x)))
  where
    turned : (a b : Bool) → a || (b || false) ≡ b || a
    turned true true = refl
    turned true false = refl
    turned false true = refl
    turned false false = refl

pub apart_none : IsDistinct same_parts []
unfolding IsDistinct
apart_none = tt

-- names in pairs

both_turned : (x y : Bool) → x && y ≡ y && x
both_turned true true = refl
both_turned true false = refl
both_turned false true = refl
both_turned false false = refl

shown_alike : (p q : Pair) → same_parts (shown p) (shown q) ≡ same_pair p q
shown_alike p q = both_turned (bytes_eq p.1.now q.1.now) (bytes_eq p.0.now q.0.now)

differ_shown : (p : Pair) (ps : List Pair) → AllByRecursion (λ q. same_pair p q ≡ false) ps → AllByRecursion (λ n. same_parts (shown p) n ≡ false) (map shown ps)
differ_shown p [] h = tt
differ_shown p (q ∷ ps) h = (shown_alike p q ∙ h.0, differ_shown p ps h.1)

shown_differ : (p : Pair) (ps : List Pair) → AllByRecursion (λ n. same_parts (shown p) n ≡ false) (map shown ps) → AllByRecursion (λ q. same_pair p q ≡ false) ps
shown_differ p [] h = tt
shown_differ p (q ∷ ps) h = (sym (shown_alike p q) ∙ h.0, shown_differ p ps h.1)

distinct_shown : (ps : List Pair) → IsDistinct same_pair ps → IsDistinct same_parts (map shown ps)
unfolding IsDistinct
distinct_shown [] h = tt
distinct_shown (p ∷ ps) h = (differ_shown p ps h.0, distinct_shown ps h.1)

shown_distinct : (ps : List Pair) → IsDistinct same_parts (map shown ps) → IsDistinct same_pair ps
unfolding IsDistinct
shown_distinct [] h = tt
shown_distinct (p ∷ ps) h = (shown_differ p ps h.0, shown_distinct ps h.1)

pub once_shown : (b : Bool) (ps : List Pair) (names : List Parts) → map shown ps ≡ names → MatchBool b (IsDistinct same_pair ps) (IsDistinct same_pair ps → ⊥) → MatchBool b (IsDistinct same_parts names) (IsDistinct same_parts names → ⊥)
once_shown true ps names e h = subst (IsDistinct same_parts) e (distinct_shown ps h)
once_shown false ps names e h = λ k. h (shown_distinct ps (subst (IsDistinct same_parts) (sym e) k))

-- what a list of attributes gives past its end
abbrev pub blank : Attribute
blank = record { prefix = record { start = 0; length = 0 }; local = record { start = 0; length = 0 }; value = 0; quote = 0 }

-- an element that stands there, whatever is given past the end
pub there_is : {A : Type 0} (xs : List A) (k : ℕ) (d : A) → get_or xs k d ≡ get_or xs k (get_or xs k d)
there_is [] k d = refl
there_is (x ∷ xs) zero d = refl
there_is (x ∷ xs) (suc k) d = there_is xs k d

pub uri_bound : (names : List ℕ) (declared : List Declared) (p q : List ℕ) (o : Option (List ℕ)) → p ≡ q → false ≡ bytes_eq p [] → o ≡ bound_by (reverse declared) names p → unwrap_or o [] ≡ uri_bytes names declared q
uri_bound names declared p q o e f g =
    ap (λ x. unwrap_or x []) (g ∙ ap (bound_by (reverse declared) names) e) ∙ ap (λ b. cond b [] (unwrap_or (bound_by (reverse declared) names q) [])) (f ∙ ap (λ z. bytes_eq z []) e)

module _ (s : Sort) (tag names : List ℕ) (declared : List Declared) where
  pub as_many_parts : (seen : List Attribute) (chains : List ℕ) → chains ≡ chains_of_parts s tag names declared seen → length chains ≡ length seen
  as_many_parts seen chains e = ap length e ∙ length-map seen (λ a. chain_of_parts (parts s tag names declared a))

  pub all_parts-append : (xs ys : List Attribute) → all_parts s tag names declared (xs ++ ys) ≡ all_parts s tag names declared xs ++ all_parts s tag names declared ys
  all_parts-append [] ys = refl
  all_parts-append (x ∷ xs) ys = ap (parts_before (parts s tag names declared x)) (all_parts-append xs ys) ∙ by (parts s tag names declared x)
    where
      by : (o : Option Parts) → parts_before o (all_parts s tag names declared xs ++ all_parts s tag names declared ys) ≡ parts_before o (all_parts s tag names declared xs) ++ all_parts s tag names declared ys
      by None = refl
      by (Some p) = refl

  -- one attribute more, which has a name or not
  pub names_more : (list : List Attribute) (i : ℕ) (d : Attribute) (old new : List Pair) (one : Pair) → i < length list → map shown old ≡ all_parts s tag names declared (take i list)
      → parts s tag names declared (get_or list i d) ≡ Some (shown one) → new ≡ old ++ one ∷ [] → map shown new ≡ all_parts s tag names declared (take (i + 1) list)
  names_more list i d old new one l h e f =
      ap (map shown) f
      ∙ (map-append shown old (one ∷ [])
      ∙ (ap (λ w. w ++ shown one ∷ []) h
      ∙ (ap (λ o. all_parts s tag names declared (take i list) ++ parts_before o []) (sym e)
      ∙ sym (ap (all_parts s tag names declared) (take_more list i d l) ∙ all_parts-append (take i list) (get_or list i d ∷ [])))))

  pub names_same : (list : List Attribute) (i : ℕ) (d : Attribute) (old : List Pair) → i < length list → map shown old ≡ all_parts s tag names declared (take i list)
      → parts s tag names declared (get_or list i d) ≡ None → map shown old ≡ all_parts s tag names declared (take (i + 1) list)
  names_same list i d old l h e =
      h
      ∙ (sym (append-nil (all_parts s tag names declared (take i list)))
      ∙ (ap (λ o. all_parts s tag names declared (take i list) ++ parts_before o []) (sym e)
      ∙ sym (ap (all_parts s tag names declared) (take_more list i d l) ∙ all_parts-append (take i list) (get_or list i d ∷ []))))

  any_parts : (p : Parts) (xs : List Attribute) → list_any (λ a. has_parts p (parts s tag names declared a)) xs ≡ list_any (λ q. same_parts q p) (all_parts s tag names declared xs)
  any_parts p [] = refl
  any_parts p (x ∷ xs) = ap (λ b. has_parts p (parts s tag names declared x) || b) (any_parts p xs) ∙ by (parts s tag names declared x)
    where
      by : (o : Option Parts) → has_parts p o || list_any (λ q. same_parts q p) (all_parts s tag names declared xs) ≡ list_any (λ q. same_parts q p) (parts_before o (all_parts s tag names declared xs))
      by None = refl
      by (Some q) = refl

  -- a name that is found, or isn't
  pub is_found : (a : Attribute) (p : Parts) (seen : List Attribute) (d : Attribute) → parts s tag names declared a ≡ Some p → first_such (λ b. has_parts p (parts s tag names declared b)) (reverse seen) ≡ Some d
      → true ≡ is_among (parts s tag names declared a) (all_parts s tag names declared seen)
  is_found a p seen d e f =
      sym (ap (λ o. is_among o (all_parts s tag names declared seen)) e
      ∙ (sym (any_parts p seen) ∙ (sym (any_reverse (λ b. has_parts p (parts s tag names declared b)) seen) ∙ such_is (λ b. has_parts p (parts s tag names declared b)) (reverse seen) d f)))

  pub not_found : (a : Attribute) (p : Parts) (seen : List Attribute) → parts s tag names declared a ≡ Some p → first_such (λ b. has_parts p (parts s tag names declared b)) (reverse seen) ≡ None
      → false ≡ is_among (parts s tag names declared a) (all_parts s tag names declared seen)
  not_found a p seen e f =
      sym (ap (λ o. is_among o (all_parts s tag names declared seen)) e
      ∙ (sym (any_parts p seen) ∙ (sym (any_reverse (λ b. has_parts p (parts s tag names declared b)) seen) ∙ none_such (λ b. has_parts p (parts s tag names declared b)) (reverse seen) f)))

  pub no_parts : (a : Attribute) (seen : List Attribute) → parts s tag names declared a ≡ None → false ≡ is_among (parts s tag names declared a) (all_parts s tag names declared seen)
  no_parts a seen e = sym (ap (λ o. is_among o (all_parts s tag names declared seen)) e)

  -- attributes with one name are in one chain
  in_chain : (p : Parts) (o : Option Parts) → has_parts p o ≡ true → chain_of_parts o ≡ chain_of p.0 p.1
  in_chain p None h = absurd (true≢false (sym h))
  in_chain p (Some q) h =
      let (e, f) = both_true (bytes_eq q.0 p.0) (bytes_eq q.1 p.1) h in
      ap (λ w. chain_of w q.1) ((bytes_decides q.0 p.0).0 e) ∙ ap (chain_of p.0) ((bytes_decides q.1 p.1).0 f)

  pub follows_parts : (p : Parts) (seen : List Attribute) (chains : List ℕ) → chains ≡ chains_of_parts s tag names declared seen → Follows (λ b. has_parts p (parts s tag names declared b)) seen chains (chain_of p.0 p.1)
  follows_parts p seen chains e i d l h =
      ap (λ w. get_or w i 0) e ∙ (get_or-map (λ a. chain_of_parts (parts s tag names declared a)) seen i d 0 l ∙ in_chain p (parts s tag names declared (get_or seen i d)) h)

  pub chains_more : (list : List Attribute) (i : ℕ) (d : Attribute) (old new : List ℕ) (chain : ℕ) → i < length list → old ≡ chains_of_parts s tag names declared (take i list)
      → chain ≡ chain_of_parts (parts s tag names declared (get_or list i d)) → new ≡ old ++ chain ∷ [] → new ≡ chains_of_parts s tag names declared (take (i + 1) list)
  chains_more list i d old new chain l e f g =
      g ∙ (ap (λ w. w ++ chain ∷ []) e ∙ (ap (λ n. chains_of_parts s tag names declared (take i list) ++ n ∷ []) f ∙ sym (map_more (λ a. chain_of_parts (parts s tag names declared a)) list i d l)))

  -- one more name
  pub apart_more : (list : List Attribute) (i : ℕ) (d : Attribute) → i < length list → IsDistinct same_parts (all_parts s tag names declared (take i list))
      → is_among (parts s tag names declared (get_or list i d)) (all_parts s tag names declared (take i list)) ≡ false → IsDistinct same_parts (all_parts s tag names declared (take (i + 1) list))
  unfolding IsDistinct
  apart_more list i d l h e =
      subst (IsDistinct same_parts) (sym (ap (all_parts s tag names declared) (take_more list i d l) ∙ all_parts-append (take i list) (get_or list i d ∷ [])))
      (by (parts s tag names declared (get_or list i d)) e)
    where
      differ : (p x : Parts) (ps : List Parts) → AllByRecursion (λ q. same_parts x q ≡ false) ps → same_parts x p ≡ false → AllByRecursion (λ q. same_parts x q ≡ false) (ps ++ p ∷ [])
      differ p x [] h e = (e, tt)
      differ p x (q ∷ ps) h e = (h.0, differ p x ps h.1 e)

      push : (p : Parts) (ps : List Parts) → IsDistinct same_parts ps → list_any (λ q. same_parts q p) ps ≡ false → IsDistinct same_parts (ps ++ p ∷ [])
      push p [] h e = (tt, tt)
      push p (x ∷ ps) h e = here (same_parts x p) refl (push p ps h.1)
        where
          here : (b : Bool) → same_parts x p ≡ b → (list_any (λ q. same_parts q p) ps ≡ false → IsDistinct same_parts (ps ++ p ∷ [])) → IsDistinct same_parts (x ∷ (ps ++ p ∷ []))
          here true f more = absurd (true≢false (sym (ap (λ b. b || list_any (λ q. same_parts q p) ps) f) ∙ e))
          here false f more = (differ p x ps h.0 f, more (sym (ap (λ b. b || list_any (λ q. same_parts q p) ps) f) ∙ e))

      by : (o : Option Parts) → is_among o (all_parts s tag names declared (take i list)) ≡ false → IsDistinct same_parts (all_parts s tag names declared (take i list) ++ parts_before o [])
      by None f = subst (IsDistinct same_parts) (sym (append-nil (all_parts s tag names declared (take i list)))) h
      by (Some p) f = push p (all_parts s tag names declared (take i list)) h f

  -- a name that is among those before it
  pub apart_no_more : (list : List Attribute) (i : ℕ) (d : Attribute) → i < length list → is_among (parts s tag names declared (get_or list i d)) (all_parts s tag names declared (take i list)) ≡ true
      → IsDistinct same_parts (all_parts s tag names declared list) → ⊥
  unfolding IsDistinct
  apart_no_more list i d l e h =
      let split : list ≡ take i list ++ get_or list i d ∷ drop (i + 1) list = sym (take-append-drop i list) ∙ ap (λ w. take i list ++ w) (drop_more list i d l) in
      by (parts s tag names declared (get_or list i d)) e (subst (IsDistinct same_parts) (ap (all_parts s tag names declared) split ∙ all_parts-append (take i list) (get_or list i d ∷ drop (i + 1) list)) h)
    where
      at : (P : Parts → Type 0) (xs zs : List Parts) (y : Parts) → AllByRecursion P (xs ++ y ∷ zs) → P y
      at P [] zs y h = h.0
      at P (x ∷ xs) zs y h = at P xs zs y h.1

      twice : (xs zs : List Parts) (y : Parts) → list_any (λ q. same_parts q y) xs ≡ true → IsDistinct same_parts (xs ++ y ∷ zs) → ⊥
      twice [] zs y e h = true≢false (sym e)
      twice (x ∷ xs) zs y e h = here (same_parts x y) refl (twice xs zs y)
        where
          here : (b : Bool) → same_parts x y ≡ b → (list_any (λ q. same_parts q y) xs ≡ true → IsDistinct same_parts (xs ++ y ∷ zs) → ⊥) → ⊥
          here true f more = true≢false (sym f ∙ at (λ z. same_parts x z ≡ false) xs zs y h.0)
          here false f more = more (sym (ap (λ b. b || list_any (λ q. same_parts q y) xs) f) ∙ e) h.1

      by : (o : Option Parts) → is_among o (all_parts s tag names declared (take i list)) ≡ true → IsDistinct same_parts (all_parts s tag names declared (take i list) ++ parts_before o (all_parts s tag names declared (drop (i + 1) list))) → ⊥
      by None f k = true≢false (sym f)
      by (Some p) f k = twice (all_parts s tag names declared (take i list)) (all_parts s tag names declared (drop (i + 1) list)) p f k

-- where there are none
pub none_alike : (sort : Sort) (tag names : List ℕ) (declared : List Declared) (list : List Attribute) → list ≡ [] → IsDistinct same_parts (all_parts sort tag names declared list)
unfolding IsDistinct
none_alike sort tag names declared list e = subst (λ z. IsDistinct same_parts (all_parts sort tag names declared z)) (sym e) tt

-- where no attribute has a prefix, the expanded names are those that are written, but for the one that declarations haven't
module _ (tag names : List ℕ) (declared : List Declared) where
  no_prefix : (a : Attribute) → HasNoPrefix a → at_span a.prefix tag ≡ []
  no_prefix a e = ap (λ n. take n (drop a.prefix.start tag)) e

  written_plain : (a : Attribute) → HasNoPrefix a → parts Written tag names declared a ≡ Some ([], at_span a.local tag)
  written_plain a e = ap (λ p. Some (p, at_span a.local tag)) (no_prefix a e)

  expanded_plain : (a : Attribute) → HasNoPrefix a → parts Expanded tag names declared a ≡ cond (is_declared [] (at_span a.local tag)) None (Some ([], at_span a.local tag))
  expanded_plain a e = ap (λ p. cond (is_declared p (at_span a.local tag)) None (Some (uri_bytes names declared p, at_span a.local tag))) (no_prefix a e)

  fewer : (P : Parts → Type 0) (list : List Attribute) → AllByRecursion HasNoPrefix list → AllByRecursion P (all_parts Written tag names declared list) → AllByRecursion P (all_parts Expanded tag names declared list)
  fewer P [] h k = tt
  fewer P (a ∷ list) h k =
      let w = subst (λ o. AllByRecursion P (parts_before o (all_parts Written tag names declared list))) (written_plain a h.0) k in
      subst (λ o. AllByRecursion P (parts_before o (all_parts Expanded tag names declared list))) (sym (expanded_plain a h.0)) (by (is_declared [] (at_span a.local tag)) w.0 (fewer P list h.1 w.1))
    where
      by : (b : Bool) → P ([], at_span a.local tag) → AllByRecursion P (all_parts Expanded tag names declared list)
          → AllByRecursion P (parts_before (cond b None (Some ([], at_span a.local tag))) (all_parts Expanded tag names declared list))
      by true here later = later
      by false here later = (here, later)

  pub written_tells : (list : List Attribute) → AllByRecursion HasNoPrefix list → IsDistinct same_parts (all_parts Written tag names declared list) → IsDistinct same_parts (all_parts Expanded tag names declared list)
  unfolding IsDistinct
  written_tells [] h d = tt
  written_tells (a ∷ list) h d =
      let w = subst (λ o. IsDistinct same_parts (parts_before o (all_parts Written tag names declared list))) (written_plain a h.0) d in
      subst (λ o. IsDistinct same_parts (parts_before o (all_parts Expanded tag names declared list))) (sym (expanded_plain a h.0))
      (by (is_declared [] (at_span a.local tag)) (fewer (λ q. same_parts ([], at_span a.local tag) q ≡ false) list h.1 w.0) (written_tells list h.1 w.1))
    where
      by : (b : Bool) → AllByRecursion (λ q. same_parts ([], at_span a.local tag) q ≡ false) (all_parts Expanded tag names declared list) → IsDistinct same_parts (all_parts Expanded tag names declared list)
          → IsDistinct same_parts (parts_before (cond b None (Some ([], at_span a.local tag))) (all_parts Expanded tag names declared list))
      by true apart later = later
      by false apart later = (apart, later)
