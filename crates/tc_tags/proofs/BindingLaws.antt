-- Bindings one within another are scopes.
use Rattle.std.proofs.Common.{◌≡◌, ℕ, ◌+◌, ◌≤◌, Bool, true, false, cond, List, [], ◌∷◌, ◌++◌, refl, ap, ◌∙◌, sym, subst, map, length, take, drop, reverse, Option, None, Some, bytes_eq, arith, append_assoc, append-nil, length-drop}
use Rattle.std.specs.List.{AllByRecursion}
use Rattle.std.specs.Cmp.Lexicographic.{bytes_decides}
use Rattle.std.proofs.lemmas.Bool.{true≢false, false_from_ne_true}
use Rattle.std.proofs.lemmas.List.{reverse-append, take-append-le, drop-append-le}
use Rattle.tc_model.specs.RawTrees.{Bound}
use Rattle.tc_model.specs.XmlTextScopes.{WrittenAttribute, is_empty, is_declaration, binding_of, uri_of, bound_in, bound_before, scope_within, first_scope}
use Rattle.tc_tags.specs.Bindings.{bound_among, Binds, IsOnce, scope_with}
use Rattle.tc_tags.specs.Chained.{chain_of, first_such}
use Rattle.tc_tags.specs.Scoped.{declares, meant_by, bound_by, chain_in, chains_in}
use Rattle.tc_tags.specs.Spans.{at_span}
use Rattle.tc_tags.specs.Written.{binding_in, StandsWithin, bindings_of}
use Rattle.tc_tags.specs.declared.names.Span.{Span}
use Rattle.tc_tags.specs.declared.scopes.Declared.{Declared}
use Rattle.tc_tags.proofs.ChainLaws.{reverse_map}

bytes_ne : (a b : List ℕ) → bytes_eq a b ≡ false → a ≡ b → ⊥
bytes_ne a b e f = true≢false (sym ((bytes_decides a b).1 f) ∙ e)

ne_bytes : (a b : List ℕ) → (a ≡ b → ⊥) → bytes_eq a b ≡ false
ne_bytes a b h = false_from_ne_true (bytes_eq a b) (λ e. h ((bytes_decides a b).0 e))

pub uri_of_bound_in : (b : Bound) (scope : List Bound) (q : List ℕ) → IsOnce scope → uri_of (bound_in b scope) q ≡ cond (bytes_eq b.prefix q) (cond (is_empty b.uri) None (Some b.uri)) (uri_of scope q)
uri_of_bound_in b [] q once = by (is_empty b.uri) (bytes_eq b.prefix q)
  where
    by : (x y : Bool) → uri_of (cond x [] (b ∷ [])) q ≡ cond (bytes_eq b.prefix q) (cond x None (Some b.uri)) None
    by true y = other (bytes_eq b.prefix q)
      where
        other : (z : Bool) → ◌≡◌ {A = Option (List ℕ)} None (cond z None None)
        other true = refl
        other false = refl
    by false y = refl
uri_of_bound_in b (c ∷ cs) q once = by (bytes_eq c.prefix b.prefix) refl (uri_of_bound_in b cs q once.1)
  where
    same : c.prefix ≡ b.prefix → (x z : Bool) → bytes_eq b.prefix q ≡ z → uri_of (cond x cs (b ∷ cs)) q ≡ cond z (cond x None (Some b.uri)) (cond (bytes_eq c.prefix q) (Some c.uri) (uri_of cs q))
    same e true true f = ap (uri_of cs) (sym ((bytes_decides b.prefix q).0 f) ∙ sym e) ∙ once.0
    same e true false f = ap (λ z. cond z (Some c.uri) (uri_of cs q)) (sym (ap (λ w. bytes_eq w q) e ∙ f))
    same e false true f = ap (λ z. cond z (Some b.uri) (uri_of cs q)) f
    same e false false f = ap (λ z. cond z (Some b.uri) (uri_of cs q)) f ∙ ap (λ z. cond z (Some c.uri) (uri_of cs q)) (sym (ap (λ w. bytes_eq w q) e ∙ f))

    other : bytes_eq c.prefix b.prefix ≡ false → (y z : Bool) → bytes_eq c.prefix q ≡ y → bytes_eq b.prefix q ≡ z → (rest : Option (List ℕ)) → rest ≡ cond z (cond (is_empty b.uri) None (Some b.uri)) (uri_of cs q)
        → cond y (Some c.uri) rest ≡ cond z (cond (is_empty b.uri) None (Some b.uri)) (cond y (Some c.uri) (uri_of cs q))
    other n true true f g rest h = absurd (bytes_ne c.prefix b.prefix n ((bytes_decides c.prefix q).0 f ∙ sym ((bytes_decides b.prefix q).0 g)))
    other n true false f g rest h = refl
    other n false true f g rest h = h
    other n false false f g rest h = h

    by : (x : Bool) → bytes_eq c.prefix b.prefix ≡ x → uri_of (bound_in b cs) q ≡ cond (bytes_eq b.prefix q) (cond (is_empty b.uri) None (Some b.uri)) (uri_of cs q)
        → uri_of (cond x (bound_before b cs) (c ∷ bound_in b cs)) q ≡ cond (bytes_eq b.prefix q) (cond (is_empty b.uri) None (Some b.uri)) (cond (bytes_eq c.prefix q) (Some c.uri) (uri_of cs q))
    by true e more = same ((bytes_decides c.prefix b.prefix).0 e) (is_empty b.uri) (bytes_eq b.prefix q) refl
    by false e more = other e (bytes_eq c.prefix q) (bytes_eq b.prefix q) refl refl (uri_of (bound_in b cs) q) more

pub once_bound_in : (b : Bound) (scope : List Bound) → IsOnce scope → IsOnce (bound_in b scope)
once_bound_in b [] once = by (is_empty b.uri)
  where
    by : (x : Bool) → IsOnce (cond x [] (b ∷ []))
    by true = tt
    by false = (refl, tt)
once_bound_in b (c ∷ cs) once = by (bytes_eq c.prefix b.prefix) refl (once_bound_in b cs once.1)
  where
    before : c.prefix ≡ b.prefix → (x : Bool) → IsOnce (cond x cs (b ∷ cs))
    before e true = once.1
    before e false = (ap (uri_of cs) (sym e) ∙ once.0, once.1)

    by : (x : Bool) → bytes_eq c.prefix b.prefix ≡ x → IsOnce (bound_in b cs) → IsOnce (cond x (bound_before b cs) (c ∷ bound_in b cs))
    by true e more = before ((bytes_decides c.prefix b.prefix).0 e) (is_empty b.uri)
    by false e more =
        let n = ne_bytes b.prefix c.prefix (λ f. bytes_ne c.prefix b.prefix e (sym f)) in
        (uri_of_bound_in b cs c.prefix once.1 ∙ (ap (λ z. cond z (cond (is_empty b.uri) None (Some b.uri)) (uri_of cs c.prefix)) n ∙ once.0), more)

pub once_first : IsOnce first_scope
once_first = (refl, tt)

pub once_with : (scope bs : List Bound) → IsOnce scope → IsOnce (scope_with scope bs)
once_with scope [] once = once
once_with scope (b ∷ bs) once = once_with (bound_in b scope) bs (once_bound_in b scope once)

-- one binding more
pub binds_one : (bindings scope : List Bound) (b : Bound) → IsOnce scope → Binds bindings scope → Binds (bindings ++ b ∷ []) (bound_in b scope)
binds_one bindings scope b once h q =
    ap (λ w. bound_among w q) (reverse-append bindings (b ∷ []))
    ∙ (ap (λ o. cond (bytes_eq b.prefix q) (cond (is_empty b.uri) None (Some b.uri)) o) (h q) ∙ sym (uri_of_bound_in b scope q once))

pub binds_more : (bindings more scope : List Bound) → IsOnce scope → Binds bindings scope → Binds (bindings ++ more) (scope_with scope more)
binds_more bindings [] scope once h = subst (λ w. Binds w scope) (sym (append-nil bindings)) h
binds_more bindings (b ∷ more) scope once h =
    subst (λ w. Binds w (scope_with (bound_in b scope) more)) (append_assoc bindings (b ∷ []) more)
    (binds_more (bindings ++ b ∷ []) more (bound_in b scope) (once_bound_in b scope once) (binds_one bindings scope b once h))

pub binds_none : Binds [] first_scope
binds_none q = refl

-- what a tag declares
pub scope_of_bindings : (scope : List Bound) (ws : List WrittenAttribute) → scope_within scope ws ≡ scope_with scope (bindings_of ws)
scope_of_bindings scope [] = refl
scope_of_bindings scope (w ∷ ws) = by (is_declaration w) (scope_of_bindings (bound_in (binding_of w) scope) ws) (scope_of_bindings scope ws)
  where
    by : (x : Bool) → scope_within (bound_in (binding_of w) scope) ws ≡ scope_with (bound_in (binding_of w) scope) (bindings_of ws) → scope_within scope ws ≡ scope_with scope (bindings_of ws)
        → scope_within (cond x (bound_in (binding_of w) scope) scope) ws ≡ scope_with scope (cond x (binding_of w ∷ bindings_of ws) (bindings_of ws))
    by true a b = a
    by false a b = b

-- declarations bind what their bindings do
by_bindings : (names q : List ℕ) (ds : List Declared) → bound_by ds names q ≡ bound_among (map (binding_in names) ds) q
by_bindings names q [] = refl
by_bindings names q (d ∷ ds) = by (bytes_eq (at_span d.prefix names) q) (by_bindings names q ds)
  where
    by : (x : Bool) → bound_by ds names q ≡ bound_among (map (binding_in names) ds) q
        → meant_by names q (cond x (Some d) (first_such (declares names q) ds)) ≡ cond x (cond (is_empty (at_span d.uri names)) None (Some (at_span d.uri names))) (bound_among (map (binding_in names) ds) q)
    by true more = refl
    by false more = more

pub bound_by_bindings : (names q : List ℕ) (ds : List Declared) → bound_by (reverse ds) names q ≡ bound_among (reverse (map (binding_in names) ds)) q
bound_by_bindings names q ds = by_bindings names q (reverse ds) ∙ ap (λ w. bound_among w q) (sym (reverse_map (binding_in names) ds))

-- what stands among names stays where names follow
pub span_kept : (s : Span) (names more : List ℕ) → s.start + s.length ≤ length names → at_span s (names ++ more) ≡ at_span s names
span_kept s names more l =
    ap (take s.length) (drop-append-le s.start names more (omega arith)) ∙ take-append-le s.length (drop s.start names) more (omega (arith, length-drop s.start names))

pub binding_kept : (names more : List ℕ) (d : Declared) → StandsWithin (length names) d → binding_in (names ++ more) d ≡ binding_in names d
binding_kept names more d h =
    let p = span_kept d.prefix names more h.0 in
    let u = span_kept d.uri names more h.1 in
    let make : List ℕ → List ℕ → Bound = λ x y. record { prefix = x; uri = y } in
    ap (λ x. make x (at_span d.uri (names ++ more))) p ∙ ap (λ y. make (at_span d.prefix names) y) u

pub bindings_kept : (names more : List ℕ) (ds : List Declared) → AllByRecursion (StandsWithin (length names)) ds → map (binding_in (names ++ more)) ds ≡ map (binding_in names) ds
bindings_kept names more [] h = refl
bindings_kept names more (d ∷ ds) h =
    ap (λ b. b ∷ map (binding_in (names ++ more)) ds) (binding_kept names more d h.0) ∙ ap (λ w. binding_in names d ∷ w) (bindings_kept names more ds h.1)

pub chains_kept : (names more : List ℕ) (ds : List Declared) → AllByRecursion (StandsWithin (length names)) ds → chains_in (names ++ more) ds ≡ chains_in names ds
chains_kept names more [] h = refl
chains_kept names more (d ∷ ds) h =
    ap (λ p. chain_of p [] ∷ chains_in (names ++ more) ds) (span_kept d.prefix names more h.0.0) ∙ ap (λ w. chain_in names d ∷ w) (chains_kept names more ds h.1)

pub within_more : (m n : ℕ) (ds : List Declared) → m ≤ n → AllByRecursion (StandsWithin m) ds → AllByRecursion (StandsWithin n) ds
within_more m n [] l h = tt
within_more m n (d ∷ ds) l h = ((omega (arith, h.0.0), omega (arith, h.0.1)), within_more m n ds l h.1)

pub all_append : {A : Type 0} (P : A → Type 0) (xs ys : List A) → AllByRecursion P xs → AllByRecursion P ys → AllByRecursion P (xs ++ ys)
all_append P [] ys h k = k
all_append P (x ∷ xs) ys h k = (h.0, all_append P xs ys h.1 k)
