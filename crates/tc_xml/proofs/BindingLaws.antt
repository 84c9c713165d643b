-- Bindings in a map, as scopes, and what is bound again once declarations are taken back.
use Rattle.std.proofs.Common.{◌≡◌, ℕ, suc, ◌≤◌, ◌+◌, Bool, true, false, cond, List, [], ◌∷◌, ◌++◌, refl, ap, ◌∙◌, sym, None, Some, Option, bytes_eq, codes, map, length, take, drop, append_assoc, append-nil, take_all}
use Rattle.std.specs.Borrow.{Bor}
use Rattle.std.specs.Map.{lookup}
use Rattle.std.specs.Option.{option_map}
use Rattle.std.specs.Cmp.Lexicographic.{bytes_decides}
use Rattle.std.proofs.Math.Seq.{take-append_seam, drop-append_seam}
use Rattle.std.proofs.lemmas.Bool.{true≢false}
use Rattle.std.specs.List.{slice_get}
use Rattle.std.specs.Prelude.{zero}
use Rattle.std.proofs.lemmas.List.{map-append, take-append-le, drop-append-le, drop_more, drop_all}
use Rattle.std.proofs.lemmas.Option.{slice_get_within, get_or_from_slice_get}
use Rattle.indexmap.specs.IndexMap.{insert_entry}
use Rattle.tc_model.specs.RawTrees.{Bound}
use Rattle.tc_model.specs.Views.{bound}
use Rattle.tc_model.specs.declared.tree.Binding.{Binding}
use Rattle.tc_model.specs.XmlTextScopes.{is_empty, uri_of, bound_in, bound_before, first_scope, xml_uri}
use Rattle.tc_xml.specs.Bounds.{bound_to, bounds}
use Rattle.tc_xml.specs.Bindings.{unless_empty, shown, now_bound, hidden, AreOnce, Tells, Binds, Declares, TakesBack}
use Rattle.tc_xml.specs.declared.bindings.Bindings.{Bindings}
use Rattle.tc_xml.proofs.ScopeLaws.{bytes_eq_turned, uri_of_lookup}

-- conditions

twice : {X : Type 0} (x : Bool) (a b c : X) → cond x a c ≡ cond x a (cond x b c)
twice true a b c = refl
twice false a b c = refl

swap : {X : Type 0} (x y : Bool) (a b c : X) → (x ≡ true → y ≡ true → ⊥) → cond x a (cond y b c) ≡ cond y b (cond x a c)
swap true true a b c h = absurd (h refl refl)
swap true false a b c h = refl
swap false y a b c h = refl

-- two texts that differ aren't both the same as a third
not_both : (a b p : List ℕ) → bytes_eq a b ≡ false → bytes_eq a p ≡ true → bytes_eq b p ≡ true → ⊥
not_both a b p f g h = true≢false (sym ((bytes_decides a b).1 ((bytes_decides a p).0 g ∙ sym ((bytes_decides b p).0 h))) ∙ f)

-- what a prefix is bound to once one is bound
pub uri_inserted : (es : List (Bor (List ℕ) × Bor (List ℕ))) (k v : Bor (List ℕ)) (p : List ℕ)
    → uri_of (bounds (insert_entry (λ x y. bytes_eq x.now y.now) es k v)) p ≡ cond (bytes_eq k.now p) (Some v.now) (uri_of (bounds es) p)
uri_inserted [] k v p = refl
uri_inserted (e ∷ es) k v p = by (bytes_eq k.now e.0.now) refl (uri_inserted es k v p)
  where
    by : (x : Bool) → bytes_eq k.now e.0.now ≡ x → uri_of (bounds (insert_entry (λ x y. bytes_eq x.now y.now) es k v)) p ≡ cond (bytes_eq k.now p) (Some v.now) (uri_of (bounds es) p)
        → uri_of (bounds (insert_entry (λ x y. bytes_eq x.now y.now) (e ∷ es) k v)) p ≡ cond (bytes_eq k.now p) (Some v.now) (uri_of (bounds (e ∷ es)) p)
    by true f more =
        ap (λ x. uri_of (bounds (cond x ((e.0, v) ∷ es) (e ∷ insert_entry (λ x y. bytes_eq x.now y.now) es k v))) p) f
        ∙ (twice (bytes_eq e.0.now p) (Some v.now) (Some e.1.now) (uri_of (bounds es) p)
        ∙ ap (λ w. cond (bytes_eq w p) (Some v.now) (cond (bytes_eq e.0.now p) (Some e.1.now) (uri_of (bounds es) p))) (sym ((bytes_decides k.now e.0.now).0 f)))
    by false f more =
        ap (λ x. uri_of (bounds (cond x ((e.0, v) ∷ es) (e ∷ insert_entry (λ x y. bytes_eq x.now y.now) es k v))) p) f
        ∙ (ap (λ w. cond (bytes_eq e.0.now p) (Some e.1.now) w) more
        ∙ swap (bytes_eq e.0.now p) (bytes_eq k.now p) (Some e.1.now) (Some v.now) (uri_of (bounds es) p) (λ g h. not_both k.now e.0.now p f h g))

-- the entries one after the other, where those before the place i have other prefixes

entry_at : (es : List (Bor (List ℕ) × Bor (List ℕ))) (i : ℕ) (e : Bor (List ℕ) × Bor (List ℕ)) → slice_get es i ≡ Some e → drop i es ≡ e ∷ drop (i + 1) es
entry_at es i e f = drop_more es i e (slice_get_within es i e f) ∙ ap (λ x. x ∷ drop (i + 1) es) (get_or_from_slice_get es i e e f)

some_none : {X : Type 0} {x : X} → Some x ≡ None → ⊥
some_none e = cc

no_entry : (es : List (Bor (List ℕ) × Bor (List ℕ))) (i : ℕ) → slice_get es i ≡ None → drop i es ≡ []
no_entry [] zero e = refl
no_entry [] (suc i) e = refl
no_entry (x ∷ es) zero e = absurd (some_none e)
no_entry (x ∷ es) (suc i) e = no_entry es i e

module _ (es : List (Bor (List ℕ) × Bor (List ℕ))) (p : List ℕ) (i : ℕ) (so_far : uri_of (bounds (drop i es)) p ≡ uri_of (bounds es) p) where
  entry_first : (e : Bor (List ℕ) × Bor (List ℕ)) → slice_get es i ≡ Some e → cond (bytes_eq e.0.now p) (Some e.1.now) (uri_of (bounds (drop (i + 1) es)) p) ≡ uri_of (bounds es) p
  entry_first e f = sym (ap (λ w. uri_of (bounds w) p) (entry_at es i e f)) ∙ so_far

  pub entry_here : (e : Bor (List ℕ) × Bor (List ℕ)) → slice_get es i ≡ Some e → bytes_eq e.0.now p ≡ true → Some e.1.now ≡ uri_of (bounds es) p
  entry_here e f g = sym (ap (λ x. cond x (Some e.1.now) (uri_of (bounds (drop (i + 1) es)) p)) g) ∙ entry_first e f

  pub entry_later : (e : Bor (List ℕ) × Bor (List ℕ)) → slice_get es i ≡ Some e → bytes_eq e.0.now p ≡ false → uri_of (bounds (drop (i + 1) es)) p ≡ uri_of (bounds es) p
  entry_later e f g = sym (ap (λ x. cond x (Some e.1.now) (uri_of (bounds (drop (i + 1) es)) p)) g) ∙ entry_first e f

  pub entry_nowhere : slice_get es i ≡ None → None ≡ uri_of (bounds es) p
  entry_nowhere f = sym (ap (λ w. uri_of (bounds w) p) (no_entry es i f)) ∙ so_far

-- what comes first decides
pub uri_appended : (xs ys zs : List Bound) (p : List ℕ) → uri_of ys p ≡ uri_of zs p → uri_of (xs ++ ys) p ≡ uri_of (xs ++ zs) p
uri_appended [] ys zs p e = e
uri_appended (x ∷ xs) ys zs p e = ap (λ w. cond (bytes_eq x.prefix p) (Some x.uri) w) (uri_appended xs ys zs p e)

pub shown_appended : (xs ys zs : List Bound) (p : List ℕ) → shown ys p ≡ shown zs p → shown (xs ++ ys) p ≡ shown (xs ++ zs) p
shown_appended [] ys zs p e = e
shown_appended (x ∷ xs) ys zs p e = by (bytes_eq x.prefix p) (shown_appended xs ys zs p e)
  where
    by : (b : Bool) → shown (xs ++ ys) p ≡ shown (xs ++ zs) p → unless_empty (cond b (Some x.uri) (uri_of (xs ++ ys) p)) ≡ unless_empty (cond b (Some x.uri) (uri_of (xs ++ zs) p))
    by true more = refl
    by false more = more

-- scopes in which no prefix stands twice

before_uri : (b : Bound) (rest : List Bound) (p : List ℕ) → uri_of rest b.prefix ≡ None → uri_of (bound_before b rest) p ≡ cond (bytes_eq b.prefix p) (unless_empty (Some b.uri)) (uri_of rest p)
before_uri b rest p none = by (is_empty b.uri) (bytes_eq b.prefix p) refl
  where
    by : (x y : Bool) → bytes_eq b.prefix p ≡ y → uri_of (cond x rest (b ∷ rest)) p ≡ cond y (cond x None (Some b.uri)) (uri_of rest p)
    by true true e = ap (uri_of rest) (sym ((bytes_decides b.prefix p).0 e)) ∙ none
    by true false e = refl
    by false y e = ap (λ z. cond z (Some b.uri) (uri_of rest p)) e

-- the binding b takes the place of the one of its prefix
pub bound_in_uri : (b : Bound) (scope : List Bound) (p : List ℕ) → AreOnce scope → uri_of (bound_in b scope) p ≡ cond (bytes_eq b.prefix p) (unless_empty (Some b.uri)) (uri_of scope p)
bound_in_uri b [] p once = before_uri b [] p refl
bound_in_uri b (c ∷ scope) p once = by (bytes_eq c.prefix b.prefix) refl (bound_in_uri b scope p once.1)
  where
    by : (x : Bool) → bytes_eq c.prefix b.prefix ≡ x → uri_of (bound_in b scope) p ≡ cond (bytes_eq b.prefix p) (unless_empty (Some b.uri)) (uri_of scope p)
        → uri_of (cond x (bound_before b scope) (c ∷ bound_in b scope)) p ≡ cond (bytes_eq b.prefix p) (unless_empty (Some b.uri)) (cond (bytes_eq c.prefix p) (Some c.uri) (uri_of scope p))
    by true e more =
        let same = (bytes_decides c.prefix b.prefix).0 e in
        before_uri b scope p (ap (uri_of scope) (sym same) ∙ once.0)
        ∙ (twice (bytes_eq b.prefix p) (unless_empty (Some b.uri)) (Some c.uri) (uri_of scope p)
        ∙ ap (λ w. cond (bytes_eq b.prefix p) (unless_empty (Some b.uri)) (cond (bytes_eq w p) (Some c.uri) (uri_of scope p))) (sym same))
    by false e more =
        ap (λ w. cond (bytes_eq c.prefix p) (Some c.uri) w) more
        ∙ swap (bytes_eq c.prefix p) (bytes_eq b.prefix p) (Some c.uri) (unless_empty (Some b.uri)) (uri_of scope p) (not_both c.prefix b.prefix p e)

pub once_bound_in : (b : Bound) (scope : List Bound) → AreOnce scope → AreOnce (bound_in b scope)
once_bound_in b [] once = by (is_empty b.uri)
  where
    by : (x : Bool) → AreOnce (cond x [] (b ∷ []))
    by true = tt
    by false = (refl, tt)
once_bound_in b (c ∷ scope) once = by (bytes_eq c.prefix b.prefix) refl (is_empty b.uri) (once_bound_in b scope once.1)
  where
    by : (x : Bool) → bytes_eq c.prefix b.prefix ≡ x → (y : Bool) → AreOnce (bound_in b scope) → AreOnce (cond x (cond y scope (b ∷ scope)) (c ∷ bound_in b scope))
    by true e true more = once.1
    by true e false more = (ap (uri_of scope) (sym ((bytes_decides c.prefix b.prefix).0 e)) ∙ once.0, once.1)
    by false e y more = (
      bound_in_uri b scope c.prefix once.1 ∙ (ap (λ z. cond z (unless_empty (Some b.uri)) (uri_of scope c.prefix)) (bytes_eq_turned b.prefix c.prefix ∙ e) ∙ once.0),
      more,
    )

-- what is told

pub tells_first : (bs : List Bound) → bs ≡ first_scope → Tells bs first_scope
tells_first bs e = record { once = (refl, tt); tells = λ p. ap (λ w. shown w p) e ∙ by p (bytes_eq (codes "xml") p) }
  where
    by : (p : List ℕ) (x : Bool) → unless_empty (cond x (Some xml_uri) None) ≡ cond x (Some xml_uri) None
    by p true = refl
    by p false = refl

pub tells_alike : {bs cs scope : List Bound} → ((p : List ℕ) → shown cs p ≡ shown bs p) → Tells bs scope → Tells cs scope
tells_alike same t = record { once = t.once; tells = λ p. same p ∙ t.tells p }

pub tells_bound : {old new : Bindings} {scope : List Bound} {b : Bound} → Binds old b new → Tells (now_bound old) scope → Tells (now_bound new) (bound_in b scope)
tells_bound {old = old} {scope = scope} {b = b} k t = record {
  once = once_bound_in b scope t.once;
  tells = λ p. ap unless_empty (k.binds p) ∙ (by p (bytes_eq b.prefix p) ∙ sym (bound_in_uri b scope p t.once));
}
  where
    by : (p : List ℕ) (x : Bool) → unless_empty (cond x (Some b.uri) (uri_of (now_bound old) p)) ≡ cond x (unless_empty (Some b.uri)) (uri_of scope p)
    by p true = refl
    by p false = t.tells p

-- what was bound before is shown by what was kept
pub binds_before : (es : List (Bor (List ℕ) × Bor (List ℕ))) (k u : Bor (List ℕ)) (old : Option (Bor (List ℕ))) (kept : List ℕ)
    → old ≡ lookup (λ (x : Bor (List ℕ)). bytes_eq k.now x.now) es → unless_empty (Some kept) ≡ unless_empty (option_map (λ (u : Bor (List ℕ)). u.now) old) → (p : List ℕ)
    → shown (bound_to k.now kept ∷ bounds (insert_entry (λ x y. bytes_eq x.now y.now) es k u)) p ≡ shown (bounds es) p
binds_before es k u old kept found keeps p = by (bytes_eq k.now p) refl
  where
    by : (x : Bool) → bytes_eq k.now p ≡ x → unless_empty (cond x (Some kept) (uri_of (bounds (insert_entry (λ x y. bytes_eq x.now y.now) es k u)) p)) ≡ unless_empty (uri_of (bounds es) p)
    by true e =
        keeps
        ∙ (ap (λ o. unless_empty (option_map (λ (u : Bor (List ℕ)). u.now) o)) found
        ∙ (ap unless_empty (uri_of_lookup es k.now)
        ∙ ap (λ w. unless_empty (uri_of (bounds es) w)) ((bytes_decides k.now p).0 e)))
    by false e = ap unless_empty (uri_inserted es k u p ∙ ap (λ x. cond x (Some u.now) (uri_of (bounds es) p)) e)

-- declarations

pub declares_none : (b : Bindings) → Declares b b
declares_none b = record { more = []; keeps = sym (append-nil (hidden b)); before = λ p. refl }

pub declares_one : {old new : Bindings} {b : Bound} → Binds old b new → Declares old new
declares_one k = record { more = k.last ∷ []; keeps = k.keeps; before = k.before }

pub declares_both : {a b c : Bindings} → Declares a b → Declares b c → Declares a c
declares_both {a = a} {b = b} {c = c} d k = record {
  more = d.more ++ k.more;
  keeps = k.keeps ∙ (ap (λ w. w ++ k.more) d.keeps ∙ append_assoc (hidden a) d.more k.more);
  before = λ p.
      ap (λ w. shown w p) (ap (λ w. w ++ now_bound c) (map-append bound d.more k.more) ∙ append_assoc (map bound d.more) (map bound k.more) (now_bound c))
      ∙ (shown_appended (map bound d.more) (map bound k.more ++ now_bound c) (now_bound b) p (k.before p) ∙ d.before p);
}

-- one declaration more is taken back
pub back_one : (count : ℕ) (front : List Binding) (last : Binding) (old new : List Bound) (whole : List Binding)
    → count ≤ length front → whole ≡ front ++ last ∷ [] → ((p : List ℕ) → uri_of new p ≡ cond (bytes_eq last.prefix.now p) (Some last.uri.now) (uri_of old p)) → (p : List ℕ)
    → uri_of (map bound (drop count front) ++ new) p ≡ uri_of (map bound (drop count whole) ++ old) p
back_one count front last old new whole l e same p =
    uri_appended (map bound (drop count front)) new (bound last ∷ old) p (same p)
    ∙ ap (λ w. uri_of w p)
    (sym (append_assoc (map bound (drop count front)) (bound last ∷ []) old)
    ∙ ap (λ w. w ++ old) (sym (map-append bound (drop count front) (last ∷ [])) ∙ ap (map bound) (sym (drop-append-le count front (last ∷ []) l) ∙ ap (drop count) (sym e))))

pub front_one : (count : ℕ) (front : List Binding) (last : Binding) (whole : List Binding) → count ≤ length front → whole ≡ front ++ last ∷ [] → take count front ≡ take count whole
front_one count front last whole l e = sym (take-append-le count front (last ∷ []) l) ∙ ap (take count) (sym e)

-- all are
pub all_back : (count : ℕ) (left : List Binding) → length left ≤ count → (take count left ≡ left) × (drop count left ≡ [])
all_back count left l = (take_all count left l, drop_all count left l)

-- after declarations that are taken back all is as it was
pub back_before : {a b c : Bindings} (d : Declares a b) → TakesBack b (length (hidden a)) c → (hidden c ≡ hidden a) × ((p : List ℕ) → shown (now_bound c) p ≡ shown (now_bound a) p)
back_before {a = a} {b = b} d k = (
  k.keeps ∙ (ap (take (length (hidden a))) d.keeps ∙ take-append_seam (hidden a) d.more),
  λ p.
      ap unless_empty (k.binds p ∙ ap (λ w. uri_of (map bound w ++ now_bound b) p) (ap (drop (length (hidden a))) d.keeps ∙ drop-append_seam (hidden a) d.more))
      ∙ d.before p,
)
