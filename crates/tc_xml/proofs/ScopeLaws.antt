-- Maps from prefixes to namespace names as scopes.
use Rattle.std.proofs.Common.{◌≡◌, ℕ, Bool, true, false, cond, List, [], ◌∷◌, refl, ap, ◌∙◌, sym, None, Some, bytes_eq}
use Rattle.std.specs.Borrow.{Bor}
use Rattle.std.specs.Map.{lookup, remove_entry}
use Rattle.std.specs.Option.{option_map}
use Rattle.std.specs.Cmp.Lexicographic.{bytes_decides}
use Rattle.std.proofs.lemmas.Bool.{false_from_ne_true, true≢false}
use Rattle.indexmap.specs.IndexMap.{insert_entry}
use Rattle.tc_model.specs.RawTrees.{Bound}
use Rattle.tc_model.specs.XmlTextScopes.{is_empty, uri_of, bound_in, bound_before}
use Rattle.tc_xml.specs.Bounds.{bound_to, bounds}

Entry : Type 0
Entry = Bor (List ℕ) × Bor (List ℕ)

-- equality of bytes, turned round
pub bytes_eq_turned : (a b : List ℕ) → bytes_eq a b ≡ bytes_eq b a
bytes_eq_turned a b = by (bytes_eq a b) refl
  where
    by : (x : Bool) → bytes_eq a b ≡ x → bytes_eq a b ≡ bytes_eq b a
    by true e = e ∙ sym ((bytes_decides b a).1 (sym ((bytes_decides a b).0 e)))
    by false e = e ∙ sym (false_from_ne_true (bytes_eq b a) (λ f. true≢false (sym ((bytes_decides a b).1 (sym ((bytes_decides b a).0 f))) ∙ e)))

-- the entries after a prefix is bound
pub bounds-insert : (es : List (Bor (List ℕ) × Bor (List ℕ))) (k v : Bor (List ℕ)) → is_empty v.now ≡ false
    → bounds (insert_entry (λ x y. bytes_eq x.now y.now) es k v) ≡ bound_in (bound_to k.now v.now) (bounds es)
bounds-insert [] k v h = ap (λ x. cond x [] (bound_to k.now v.now ∷ [])) (sym h)
bounds-insert (e ∷ es) k v h = by (bytes_eq k.now e.0.now) refl (bounds-insert es k v h)
  where
    by : (x : Bool) → bytes_eq k.now e.0.now ≡ x → bounds (insert_entry (λ x y. bytes_eq x.now y.now) es k v) ≡ bound_in (bound_to k.now v.now) (bounds es)
        → bounds (insert_entry (λ x y. bytes_eq x.now y.now) (e ∷ es) k v) ≡ bound_in (bound_to k.now v.now) (bounds (e ∷ es))
    by true f more =
        let same = (bytes_decides k.now e.0.now).0 f in
        ap (λ x. bounds (cond x ((e.0, v) ∷ es) (e ∷ insert_entry (λ x y. bytes_eq x.now y.now) es k v))) f
        ∙ (ap (λ p. bound_to p v.now ∷ bounds es) (sym same)
        ∙ (ap (λ x. cond x (bounds es) (bound_to k.now v.now ∷ bounds es)) (sym h)
        ∙ ap (λ x. cond x (bound_before (bound_to k.now v.now) (bounds es)) (bound_to e.0.now e.1.now ∷ bound_in (bound_to k.now v.now) (bounds es))) (sym (bytes_eq_turned e.0.now k.now ∙ f))))
    by false f more =
        ap (λ x. bounds (cond x ((e.0, v) ∷ es) (e ∷ insert_entry (λ x y. bytes_eq x.now y.now) es k v))) f
        ∙ (ap (λ w. bound_to e.0.now e.1.now ∷ w) more
        ∙ ap (λ x. cond x (bound_before (bound_to k.now v.now) (bounds es)) (bound_to e.0.now e.1.now ∷ bound_in (bound_to k.now v.now) (bounds es))) (sym (bytes_eq_turned e.0.now k.now ∙ f)))

-- the entries after a prefix is unbound
pub bounds-remove : (es : List (Bor (List ℕ) × Bor (List ℕ))) (k v : List ℕ) → is_empty v ≡ true
    → bounds (remove_entry (λ x. bytes_eq k x.now) es) ≡ bound_in (bound_to k v) (bounds es)
bounds-remove [] k v h = ap (λ x. cond x [] (bound_to k v ∷ [])) (sym h)
bounds-remove (e ∷ es) k v h = by (bytes_eq k e.0.now) refl (bounds-remove es k v h)
  where
    by : (x : Bool) → bytes_eq k e.0.now ≡ x → bounds (remove_entry (λ x. bytes_eq k x.now) es) ≡ bound_in (bound_to k v) (bounds es)
        → bounds (remove_entry (λ x. bytes_eq k x.now) (e ∷ es)) ≡ bound_in (bound_to k v) (bounds (e ∷ es))
    by true f more =
        ap (λ x. bounds (cond x es (e ∷ remove_entry (λ x. bytes_eq k x.now) es))) f
        ∙ (ap (λ x. cond x (bounds es) (bound_to k v ∷ bounds es)) (sym h)
        ∙ ap (λ x. cond x (bound_before (bound_to k v) (bounds es)) (bound_to e.0.now e.1.now ∷ bound_in (bound_to k v) (bounds es))) (sym (bytes_eq_turned e.0.now k ∙ f)))
    by false f more =
        ap (λ x. bounds (cond x es (e ∷ remove_entry (λ x. bytes_eq k x.now) es))) f
        ∙ (ap (λ w. bound_to e.0.now e.1.now ∷ w) more
        ∙ ap (λ x. cond x (bound_before (bound_to k v) (bounds es)) (bound_to e.0.now e.1.now ∷ bound_in (bound_to k v) (bounds es))) (sym (bytes_eq_turned e.0.now k ∙ f)))

-- what a prefix is bound to
pub uri_of_lookup : (es : List (Bor (List ℕ) × Bor (List ℕ))) (k : List ℕ) → option_map (λ (u : Bor (List ℕ)). u.now) (lookup (λ (x : Bor (List ℕ)). bytes_eq k x.now) es) ≡ uri_of (bounds es) k
uri_of_lookup [] k = refl
uri_of_lookup (e ∷ es) k = by (bytes_eq k e.0.now) refl (uri_of_lookup es k)
  where
    by : (x : Bool) → bytes_eq k e.0.now ≡ x → option_map (λ (u : Bor (List ℕ)). u.now) (lookup (λ (x : Bor (List ℕ)). bytes_eq k x.now) es) ≡ uri_of (bounds es) k
        → option_map (λ (u : Bor (List ℕ)). u.now) (lookup (λ (x : Bor (List ℕ)). bytes_eq k x.now) (e ∷ es)) ≡ uri_of (bounds (e ∷ es)) k
    by true f more =
        ap (λ x. option_map (λ (u : Bor (List ℕ)). u.now) (cond x (Some e.1) (lookup (λ (x : Bor (List ℕ)). bytes_eq k x.now) es))) f
        ∙ ap (λ x. cond x (Some e.1.now) (uri_of (bounds es) k)) (sym (bytes_eq_turned e.0.now k ∙ f))
    by false f more =
        ap (λ x. option_map (λ (u : Bor (List ℕ)). u.now) (cond x (Some e.1) (lookup (λ (x : Bor (List ℕ)). bytes_eq k x.now) es))) f
        ∙ (more
        ∙ ap (λ x. cond x (Some e.1.now) (uri_of (bounds es) k)) (sym (bytes_eq_turned e.0.now k ∙ f)))

pub uri_unbound : (es : List (Bor (List ℕ) × Bor (List ℕ))) (scope : List Bound) (k : List ℕ) → bounds es ≡ scope → lookup (λ (x : Bor (List ℕ)). bytes_eq k x.now) es ≡ None → uri_of scope k ≡ None
uri_unbound es scope k e f = ap (λ s. uri_of s k) (sym e) ∙ (sym (uri_of_lookup es k) ∙ ap (option_map (λ (u : Bor (List ℕ)). u.now)) f)

pub uri_bound : (es : List (Bor (List ℕ) × Bor (List ℕ))) (scope : List Bound) (k : List ℕ) (u : Bor (List ℕ)) → bounds es ≡ scope → lookup (λ (x : Bor (List ℕ)). bytes_eq k x.now) es ≡ Some u → uri_of scope k ≡ Some u.now
uri_bound es scope k u e f = ap (λ s. uri_of s k) (sym e) ∙ (sym (uri_of_lookup es k) ∙ ap (option_map (λ (u : Bor (List ℕ)). u.now)) f)
