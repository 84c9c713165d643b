-- What start tags mean, part by part.
use Rattle.std.proofs.Common.{◌≡◌, ℕ, ◌+◌, ◌<◌, Bool, true, false, List, [], ◌∷◌, ◌++◌, refl, ap, ◌∙◌, sym, subst, map, length, take, drop, get_or, Option, None, Some, MatchBool, take-append-drop, ◌&&◌, bytes_eq}
use Rattle.std.specs.List.{IsDistinct, AllByRecursion}
use Rattle.std.specs.Option.{option_map, option_to_list}
use Rattle.std.specs.Prelude.{Result, Ok, Err}
use Rattle.std.specs.Result.{IfErr, IsErrAnd}
use Rattle.std.specs.Cmp.Lexicographic.{bytes_decides}
use Rattle.std.proofs.lemmas.List.{drop_more, take_more, map-append}
use Rattle.tc_model.specs.Names.{ExpandedName, same_name}
use Rattle.tc_model.specs.RawTrees.{Attribute, Bound}
use Rattle.tc_model.specs.Views.{attribute}
use Rattle.tc_model.specs.declared.tree.RawAttr.{RawAttr}
use Rattle.tc_model.specs.XmlTextNames.{QualifiedName, same_written}
use Rattle.tc_model.specs.XmlTextScopes.{WrittenAttribute, is_empty, is_declaration, binding_of, uri_of, scope_within, IsLawfulBinding, Expands, no_more, declaration, plain, prefixed, ElementName, bound, unbound, TagMeans}
use Rattle.tc_xml.specs.Bounds.{bound_to}
use Rattle.tc_tags.specs.Pairs.{Pair, same_pair}
use Rattle.tc_xml.specs.Tags.{written, Breaks}
use Rattle.tc_xml.specs.declared.faults.Stop.{Stop}
use Rattle.tc_xml.specs.declared.faults.Stop.TheVariants.{Malformed, Unsupported, TooDeep, NoMemory}
use Rattle.tc_xml.specs.declared.tags.Written.{Written}

-- what breaks one thing breaks another
pub breaks_too : (e : Stop) (P Q : Type 0) → (P → Q) → Breaks e P → Breaks e Q
breaks_too (Malformed left) P Q f h = f h
breaks_too (Unsupported left why) P Q f h = h
breaks_too (TooDeep left) P Q f h = h
breaks_too NoMemory P Q f h = tt

pub err_breaks : {X : Type 0} (r : Result X Stop) (x : Stop) (P Q : Type 0) → IsErrAnd r (λ y. y ≡ x) → Breaks x P → (P → Q) → IfErr r (λ e. Breaks e Q)
err_breaks (Ok v) x P Q e h f = tt
err_breaks (Err y) x P Q e h f = breaks_too y P Q f (subst (λ z. Breaks z P) (sym e) h)

-- the name of an element
empty_is : (p : List ℕ) → is_empty p ≡ true → p ≡ []
empty_is p e = (bytes_decides p []).0 e

pub unbound_name : (scope : List Bound) (name : QualifiedName) (local : List ℕ) → is_empty name.prefix ≡ true → uri_of scope name.prefix ≡ None → local ≡ name.local → ElementName scope name (record { uri = []; local = local })
unbound_name scope name local e f g = subst (λ l. ElementName scope name (record { uri = []; local = l })) (sym g) (unbound e (ap (uri_of scope) (sym (empty_is name.prefix e)) ∙ f))

pub no_name : (scope : List Bound) (name : QualifiedName) → is_empty name.prefix ≡ false → uri_of scope name.prefix ≡ None → (n : ExpandedName) → ElementName scope name n → ⊥
no_name scope name e f n (bound g) = some_none f g
  where
    some_none : {o : Option (List ℕ)} {u : List ℕ} → o ≡ None → o ≡ Some u → ⊥
    some_none p q = cc
no_name scope name e f n (unbound g h) = false_true e g
  where
    false_true : {x : Bool} → x ≡ false → x ≡ true → ⊥
    false_true p q = cc

-- one attribute
pub expands_declaration : (scope : List Bound) (a : WrittenAttribute) (prefix : List ℕ) → is_declaration a ≡ true → prefix ≡ (binding_of a).prefix → IsLawfulBinding (bound_to prefix a.value) → Expands scope (a ∷ []) []
expands_declaration scope a prefix e f h = declaration e (subst (λ p. IsLawfulBinding (bound_to p a.value)) f h) no_more

pub expands_attribute : (scope : List Bound) (a : WrittenAttribute) (uri local : List ℕ) → is_declaration a ≡ false → MatchBool (is_empty a.name.prefix) (uri ≡ []) (uri_of scope a.name.prefix ≡ Some uri) → local ≡ a.name.local
    → Expands scope (a ∷ []) (record { name = record { uri = uri; local = local }; value = a.value; place = a.place } ∷ [])
expands_attribute scope a uri local e h is = subst (λ l. Expands scope (a ∷ []) (record { name = record { uri = uri; local = l }; value = a.value; place = a.place } ∷ [])) (sym is) (by (is_empty a.name.prefix) refl h)
  where
    by : (x : Bool) → is_empty a.name.prefix ≡ x → MatchBool x (uri ≡ []) (uri_of scope a.name.prefix ≡ Some uri) → Expands scope (a ∷ []) (record { name = record { uri = uri; local = a.name.local }; value = a.value; place = a.place } ∷ [])
    by true f g = subst (λ u. Expands scope (a ∷ []) (record { name = record { uri = u; local = a.name.local }; value = a.value; place = a.place } ∷ [])) (sym g) (plain e f no_more)
    by false f g = prefixed e f g no_more

-- attributes, one after the other
pub expands-append : {scope : List Bound} {ws vs : List WrittenAttribute} {found more : List Attribute} → Expands scope ws found → Expands scope vs more → Expands scope (ws ++ vs) (found ++ more)
expands-append no_more k = k
expands-append (declaration e l h) k = declaration e l (expands-append h k)
expands-append (plain e f h) k = plain e f (expands-append h k)
expands-append (prefixed e f u h) k = prefixed e f u (expands-append h k)

pub expands_first : {scope : List Bound} {a : WrittenAttribute} {ws : List WrittenAttribute} {found : List Attribute} → Expands scope (a ∷ ws) found → (one : List Attribute) × Expands scope (a ∷ []) one
expands_first (declaration e l h) = ([], declaration e l no_more)
expands_first (plain e f h) = (_, plain e f no_more)
expands_first (prefixed e f u h) = (_, prefixed e f u no_more)

pub expands_at : {scope : List Bound} (ws vs : List WrittenAttribute) (a : WrittenAttribute) (found : List Attribute) → Expands scope (ws ++ a ∷ vs) found → (one : List Attribute) × Expands scope (a ∷ []) one
expands_at [] vs a found h = expands_first h
expands_at (w ∷ ws) vs a found (declaration e l h) = expands_at ws vs a _ h
expands_at (w ∷ ws) vs a found (plain e f h) = expands_at ws vs a _ h
expands_at (w ∷ ws) vs a found (prefixed e f u h) = expands_at ws vs a _ h

-- the attribute at a place, among those before and after it
split_at : (all : List Written) (i : ℕ) (d : Written) → i < length all → map written all ≡ map written (take i all) ++ written (get_or all i d) ∷ map written (drop (i + 1) all)
split_at all i d l =
    ap (map written) (sym (take-append-drop i all) ∙ ap (λ w. take i all ++ w) (drop_more all i d l))
    ∙ map-append written (take i all) (get_or all i d ∷ drop (i + 1) all)

pub no_expansion : (scope : List Bound) (all : List Written) (i : ℕ) (d : Written) → i < length all → ((one : List Attribute) → Expands scope (written (get_or all i d) ∷ []) one → ⊥)
    → (found : List Attribute) → Expands scope (map written all) found → ⊥
no_expansion scope all i d l h found k =
    let (one, e) = expands_at (map written (take i all)) (map written (drop (i + 1) all)) (written (get_or all i d)) found (subst (λ w. Expands scope w found) (split_at all i d l) k) in
    h one e

-- pairs as names, the expanded ones with their local part first
abbrev pub pair_name : Pair → QualifiedName
pair_name p = record { prefix = p.0.now; local = p.1.now }

abbrev pub pair_expanded : Pair → ExpandedName
pair_expanded p = record { uri = p.1.now; local = p.0.now }

differ_written : (p : Pair) (ps : List Pair) → AllByRecursion (λ q. same_pair p q ≡ false) ps → AllByRecursion (λ n. same_written (pair_name p) n ≡ false) (map pair_name ps)
differ_written p [] h = tt
differ_written p (q ∷ ps) h = (h.0, differ_written p ps h.1)

differ_pairs : (p : Pair) (ps : List Pair) → AllByRecursion (λ n. same_written (pair_name p) n ≡ false) (map pair_name ps) → AllByRecursion (λ q. same_pair p q ≡ false) ps
differ_pairs p [] h = tt
differ_pairs p (q ∷ ps) h = (h.0, differ_pairs p ps h.1)

pub distinct_written : (ps : List Pair) → IsDistinct same_pair ps → IsDistinct same_written (map pair_name ps)
unfolding IsDistinct
distinct_written [] h = tt
distinct_written (p ∷ ps) h = (differ_written p ps h.0, distinct_written ps h.1)

pub distinct_pairs : (ps : List Pair) → IsDistinct same_written (map pair_name ps) → IsDistinct same_pair ps
unfolding IsDistinct
distinct_pairs [] h = tt
distinct_pairs (p ∷ ps) h = (differ_pairs p ps h.0, distinct_pairs ps h.1)

both_turned : (x y : Bool) → x && y ≡ y && x
both_turned true true = refl
both_turned true false = refl
both_turned false true = refl
both_turned false false = refl

name_turned : (p q : Pair) → same_name (pair_expanded p) (pair_expanded q) ≡ same_pair p q
name_turned p q = both_turned (bytes_eq p.1.now q.1.now) (bytes_eq p.0.now q.0.now)

differ_expanded : (p : Pair) (ps : List Pair) → AllByRecursion (λ q. same_pair p q ≡ false) ps → AllByRecursion (λ n. same_name (pair_expanded p) n ≡ false) (map pair_expanded ps)
differ_expanded p [] h = tt
differ_expanded p (q ∷ ps) h = (name_turned p q ∙ h.0, differ_expanded p ps h.1)

differ_both : (p : Pair) (ps : List Pair) → AllByRecursion (λ n. same_name (pair_expanded p) n ≡ false) (map pair_expanded ps) → AllByRecursion (λ q. same_pair p q ≡ false) ps
differ_both p [] h = tt
differ_both p (q ∷ ps) h = (sym (name_turned p q) ∙ h.0, differ_both p ps h.1)

pub distinct_expanded : (ps : List Pair) → IsDistinct same_pair ps → IsDistinct same_name (map pair_expanded ps)
unfolding IsDistinct
distinct_expanded [] h = tt
distinct_expanded (p ∷ ps) h = (differ_expanded p ps h.0, distinct_expanded ps h.1)

pub distinct_both : (ps : List Pair) → IsDistinct same_name (map pair_expanded ps) → IsDistinct same_pair ps
unfolding IsDistinct
distinct_both [] h = tt
distinct_both (p ∷ ps) h = (differ_both p ps h.0, distinct_both ps h.1)

pub once_written : (b : Bool) (ps : List Pair) (names : List QualifiedName) → map pair_name ps ≡ names → MatchBool b (IsDistinct same_pair ps) (IsDistinct same_pair ps → ⊥) → MatchBool b (IsDistinct same_written names) (IsDistinct same_written names → ⊥)
once_written true ps names e h = subst (IsDistinct same_written) e (distinct_written ps h)
once_written false ps names e h = λ k. h (distinct_pairs ps (subst (IsDistinct same_written) (sym e) k))

pub once_expanded : (b : Bool) (ps : List Pair) (names : List ExpandedName) → map pair_expanded ps ≡ names → MatchBool b (IsDistinct same_pair ps) (IsDistinct same_pair ps → ⊥) → MatchBool b (IsDistinct same_name names) (IsDistinct same_name names → ⊥)
once_expanded true ps names e h = subst (IsDistinct same_name) e (distinct_expanded ps h)
once_expanded false ps names e h = λ k. h (distinct_both ps (subst (IsDistinct same_name) (sym e) k))

pub bound_name : (scope : List Bound) (name : QualifiedName) (uri local : List ℕ) → uri_of scope name.prefix ≡ Some uri → local ≡ name.local → ElementName scope name (record { uri = uri; local = local })
bound_name scope name uri local e f = subst (λ l. ElementName scope name (record { uri = uri; local = l })) (sym f) (bound e)

-- one more attribute
pub expands_more : (scope : List Bound) (all : List Written) (i : ℕ) (d : Written) (found one more : List Attribute) → i < length all
    → Expands scope (map written (take i all)) found → Expands scope (written (get_or all i d) ∷ []) one → more ≡ found ++ one
    → Expands scope (map written (take (i + 1) all)) more
expands_more scope all i d found one more l h k e =
    let ws : map written (take i all) ++ written (get_or all i d) ∷ [] ≡ map written (take (i + 1) all) =
    sym (map-append written (take i all) (get_or all i d ∷ [])) ∙ ap (map written) (sym (take_more all i d l)) in
    subst (λ w. Expands scope w more) ws (subst (Expands scope (map written (take i all) ++ written (get_or all i d) ∷ [])) (sym e) (expands-append h k))

pub all_more : (scope : List Bound) (all : List Written) (i : ℕ) (d : Written) (old new : List RawAttr) (o : Option RawAttr) → i < length all
    → Expands scope (map written (take i all)) (map attribute old) → Expands scope (written (get_or all i d) ∷ []) (option_to_list (option_map attribute o)) → new ≡ old ++ option_to_list o
    → Expands scope (map written (take (i + 1) all)) (map attribute new)
all_more scope all i d old new o l h k e =
    expands_more scope all i d (map attribute old) (option_to_list (option_map attribute o)) (map attribute new) l h k
    (ap (map attribute) e ∙ (map-append attribute old (option_to_list o) ∙ ap (λ w. map attribute old ++ w) (one o)))
  where
    one : (o : Option RawAttr) → map attribute (option_to_list o) ≡ option_to_list (option_map attribute o)
    one None = refl
    one (Some x) = refl

-- attributes have one expansion
same_uri : {u v : List ℕ} {o : Option (List ℕ)} → o ≡ Some u → o ≡ Some v → u ≡ v
same_uri p q = cc

not_both : {x : Bool} → x ≡ true → x ≡ false → ⊥
not_both p q = cc

expands_unique : {scope : List Bound} {ws : List WrittenAttribute} {m n : List Attribute} → Expands scope ws m → Expands scope ws n → m ≡ n
expands_unique no_more no_more = refl
expands_unique (declaration h k e) (declaration h' k' f) = expands_unique e f
expands_unique (declaration h k e) (plain h' k' f) = absurd (not_both h h')
expands_unique (declaration h k e) (prefixed h' k' u f) = absurd (not_both h h')
expands_unique (plain h k e) (declaration h' k' f) = absurd (not_both h' h)
expands_unique (plain {a = a} h k e) (plain h' k' f) =
    let one : Attribute = record { name = record { uri = []; local = a.name.local }; value = a.value; place = a.place } in ap (λ w. one ∷ w) (expands_unique e f)
expands_unique (plain h k e) (prefixed h' k' u f) = absurd (not_both k k')
expands_unique (prefixed h k u e) (declaration h' k' f) = absurd (not_both h' h)
expands_unique (prefixed h k u e) (plain h' k' f) = absurd (not_both k' k)
expands_unique (prefixed {a = a} {attributes = m} h k u e) (prefixed {uri = v} h' k' u' f) =
    let one : List ℕ → Attribute = λ w. record { name = record { uri = w; local = a.name.local }; value = a.value; place = a.place } in
    ap (λ w. one w ∷ m) (same_uri u u') ∙ ap (λ w. one v ∷ w) (expands_unique e f)

not_distinct : (b : Bool) (P : Type 0) → b ≡ false → MatchBool b P (P → ⊥) → P → ⊥
not_distinct true P e h p = not_both refl e
not_distinct false P e h p = h p

pub is_distinct : (b : Bool) (P : Type 0) → b ≡ true → MatchBool b P (P → ⊥) → P
is_distinct true P e h = h
is_distinct false P e h = absurd (not_both e refl)

pub not_expanded_once : {inner : List Bound} {ws : List WrittenAttribute} (found : List Attribute) (b : Bool) → Expands inner ws found → b ≡ false
    → MatchBool b (IsDistinct same_name (map (λ a. a.name) found)) (IsDistinct same_name (map (λ a. a.name) found) → ⊥)
    → (expanded : List Attribute) → Expands inner ws expanded → IsDistinct same_name (map (λ a. a.name) expanded) → ⊥
not_expanded_once found b h is k expanded x d = not_distinct b _ is k (subst (λ w. IsDistinct same_name (map (λ a. a.name) w)) (sym (expands_unique h x)) d)

-- a tag's meaning is that within its scope
pub in_its_scope : {outer : List Bound} {tag : QualifiedName} {ws : List WrittenAttribute} (inner : List Bound) → inner ≡ scope_within outer ws
    → ((name : ExpandedName) (expanded : List Attribute) → ElementName inner tag name → Expands inner ws expanded → IsDistinct same_name (map (λ a. a.name) expanded) → ⊥)
    → (scope : List Bound) (name : ExpandedName) (expanded : List Attribute) → TagMeans outer tag ws scope name expanded → ⊥
in_its_scope {tag = tag} {ws = ws} inner e k scope name expanded t =
    let same = t.scopes ∙ sym e in k name expanded (subst (λ s. ElementName s tag name) same t.names) (subst (λ s. Expands s ws expanded) same t.expands) t.expanded_once

-- what a slice of attributes gives past its end
abbrev pub blank_written : Written
blank_written = record { name = record { prefix = record { ref_ptr = (0, 0); now = [] }; local = record { ref_ptr = (0, 0); now = [] } }; value = record { ref_ptr = (0, 0); now = [] }; place = record { 0 = 0 } }
