-- Tags whose attributes are dropped, part by part.
use Rattle.std.proofs.Common.{◌≡◌, ℕ, Bool, true, false, cond, not, List, [], ◌∷◌, ◌++◌, refl, ap, ◌∙◌, sym, subst, map, length, take, get_or, ◌<◌, ◌+◌, arith, append_assoc, append-nil, bytes_eq, Option, None, Some}
use Rattle.std.specs.List.{IsDistinct, AllByRecursion}
use Rattle.std.specs.Option.{option_map}
use Rattle.std.specs.Cmp.Lexicographic.{bytes_decides}
use Rattle.std.proofs.lemmas.Bool.{true≢false, and_from}
use Rattle.std.proofs.lemmas.List.{map-append, take_more}
use Rattle.tc_model.specs.Names.{ExpandedName, same_name, xmlns_uri}
use Rattle.tc_model.specs.RawTrees.{Attribute, Bound}
use Rattle.tc_model.specs.XmlTextBytes.{BeginsWithWhite, after_white, EqualsAt, place_of}
use Rattle.tc_model.specs.XmlTextNames.{QualifiedName, QNameAt, same_written}
use Rattle.tc_model.specs.XmlTextReferences.{QuotedAt}
use Rattle.tc_model.specs.XmlTextRefusals.{xml_space}
use Rattle.tc_model.specs.XmlTextContent.{EndsTag, AttributesAt, attribute, TagAt}
use Rattle.tc_model.specs.XmlTextContent as c
use Rattle.tc_model.specs.XmlTextScopes.{WrittenAttribute, is_empty, is_declaration, is_xml_space, bound_in, IsLawfulBinding, scope_within, uri_of, ElementName, Expands, no_more, declaration, plain, prefixed}
use Rattle.tc_xml.specs.Bounds.{bound_to}
use Rattle.tc_xml.specs.Bindings.{Tells, now_bound, shown}
use Rattle.tc_tags.specs.Pairs.{Pair, same_pair}
use Rattle.tc_xml.specs.PlainTags.{as_written, as_expanded, expanded_name, IsLawful, DeclarationRead, ValueRead, AttributeRead, AttributesRead, AllRead, AreExpanded}
use Rattle.tc_xml.specs.Tags.{is_declaring, declared_prefix}
use Rattle.tc_xml.specs.declared.bindings.Bindings.{Bindings}
use Rattle.tc_xml.proofs.BindingLaws.{declares_none, declares_one, declares_both, tells_bound}
use Rattle.tc_xml.proofs.ContentLaws.{attributes_within}
use Rattle.tc_xml.proofs.TagLaws.{distinct_expanded}
use Rattle.tc_tags.proofs.FormLaws.{all_append, from_false, is_name, qname_within}

-- values

pub declared_value : {old new : Bindings} {prefix text rest : List ℕ} (n : QualifiedName) → is_declaring n ≡ true → prefix ≡ declared_prefix n → DeclarationRead old prefix text new rest → ValueRead old n text new rest
declared_value {new = new} n e f d = record {
  value = d.uri;
  quoted = d.quoted;
  lawful = λ h. subst (λ w. IsLawfulBinding (bound_to w d.uri)) f d.lawful;
  declares = declares_one d.binds;
  tells = λ scope t.
      subst (λ x. Tells (now_bound new) (cond x (bound_in (bound_to (declared_prefix n) d.uri) scope) scope)) (sym e)
      (subst (λ w. Tells (now_bound new) (bound_in (bound_to w d.uri) scope)) f (tells_bound d.binds t));
}

pub other_value : (b : Bindings) (text value rest : List ℕ) (n : QualifiedName) → is_declaring n ≡ false → QuotedAt false text value rest → ValueRead b n text b rest
other_value b text value rest n e q = record {
  value = value;
  quoted = q;
  lawful = λ h. absurd (true≢false (sym h ∙ e));
  declares = declares_none b;
  tells = λ scope t. subst (λ x. Tells (now_bound b) (cond x (bound_in (bound_to (declared_prefix n) value) scope) scope)) (sym e) t;
}

-- attributes

pub an_attribute : (total : ℕ) (old new : Bindings) (text start behind equals rest : List ℕ) (name : QualifiedName) (names noted : List Pair) → BeginsWithWhite text → start ≡ after_white text → QNameAt start name behind
    → false ≡ same_written name xml_space → EqualsAt behind equals → ValueRead old name equals new rest → map as_written noted ≡ map as_written names ++ name ∷ []
    → AttributeRead total old names text new noted rest
an_attribute total old new text start behind equals rest name names noted white e q space f v notes = record {
  written = record { name = name; value = v.value; place = place_of total (after_white text) };
  reads = record {
    past_name = behind;
    start = equals;
    white = white;
    names = subst (λ w. QNameAt w name behind) e q;
    equals = f;
    quoted = v.quoted;
    stands = refl;
    no_space = sym space;
  };
  notes = notes;
  lawful = v.lawful;
  declares = v.declares;
  tells = v.tells;
}

pub one_noted : (names noted : List Pair) (p : Pair) → noted ≡ names ++ p ∷ [] → map as_written noted ≡ map as_written names ++ as_written p ∷ []
one_noted names noted p e = ap (map as_written) e ∙ map-append as_written names (p ∷ [])

pub read_none : (total : ℕ) (b : Bindings) (text : List ℕ) (names : List Pair) → names ≡ [] → AttributesRead total b text b names text
read_none total b text names e = record {
  written = [];
  forth = λ list after a. a;
  no_space = refl;
  notes = ap (map as_written) e;
  lawful = tt;
  declares = declares_none b;
  tells = λ scope t. t;
}

all_then : (P : WrittenAttribute → Type 0) (xs : List WrittenAttribute) (x : WrittenAttribute) → AllByRecursion P xs → P x → AllByRecursion P (xs ++ x ∷ [])
all_then P [] x h k = (k, tt)
all_then P (y ∷ xs) x h k = (h.0, all_then P xs x h.1 k)

scope_after : (scope : List Bound) (ws : List WrittenAttribute) (a : WrittenAttribute) → scope_within scope (ws ++ a ∷ []) ≡ scope_within (scope_within scope ws) (a ∷ [])
scope_after scope [] a = refl
scope_after scope (w ∷ ws) a = scope_after (scope_within scope (w ∷ [])) ws a

pub read_more : {total : ℕ} {old mid new : Bindings} {text rest after : List ℕ} {names noted : List Pair} → AttributesRead total old text mid names rest → AttributeRead total mid names rest new noted after
    → AttributesRead total old text new noted after
read_more {total = total} {new = new} {text = text} {rest = rest} {after = after} p k = record {
  written = p.written ++ a ∷ [];
  forth = λ list end l. subst (λ w. AttributesAt false total text w end) (sym (append_assoc p.written (a ∷ []) list)) (p.forth (a ∷ list) end (one list end l));
  no_space = all_append (λ a. not (is_xml_space a)) p.written a p.no_space (from_false (is_xml_space a) k.reads.no_space);
  notes = k.notes ∙ (ap (λ w. w ++ a.name ∷ []) p.notes ∙ sym (map-append (λ (a : WrittenAttribute). a.name) p.written (a ∷ [])));
  lawful = all_then IsLawful p.written a p.lawful k.lawful;
  declares = declares_both p.declares k.declares;
  tells = λ scope t. subst (Tells (now_bound new)) (sym (scope_after scope p.written a)) (k.tells (scope_within scope p.written) (p.tells scope t));
}
  where
    a : WrittenAttribute
    a = k.written

    one : (list : List WrittenAttribute) (end : List ℕ) → AttributesAt false total after list end → AttributesAt false total rest (a ∷ list) end
    one list end l =
        subst (λ w. AttributesAt false total rest (record { name = a.name; value = a.value; place = w } ∷ list) end) (sym k.reads.stands)
        (attribute k.reads.white k.reads.names k.reads.equals k.reads.quoted l)

pub all_read : {total : ℕ} {old new : Bindings} {text past : List ℕ} {names : List Pair} (rest : List ℕ) → AttributesRead total old text new names past → rest ≡ after_white past → EndsTag rest → AllRead total old text new names rest
all_read {total = total} {past = past} rest p e ends = record {
  past = past;
  parts = p;
  ends = subst (λ w. AttributesAt false total past [] w) (sym e) (c.no_more (subst EndsTag e ends));
}

-- expanded names

abbrev pub named_by : List ℕ → List ℕ → ExpandedName
named_by uri local = record { uri = uri; local = local }

-- a name by the bytes of its parts
pub named_alike : {uri local u l : List ℕ} → u ≡ uri → l ≡ local → Some (named_by uri local) ≡ Some (named_by u l)
named_alike {local = local} {u = u} e f = ap (λ w. Some (named_by w local)) (sym e) ∙ ap (λ w. Some (named_by u w)) (sym f)

pub expands_declaring : (scope : List Bound) (n : QualifiedName) → is_declaring n ≡ true → expanded_name scope n ≡ Some (named_by xmlns_uri n.local)
expands_declaring scope n e = ap (λ x. cond x (Some (named_by xmlns_uri n.local)) (cond (is_empty n.prefix) (Some (named_by [] n.local)) (option_map (λ u. named_by u n.local) (uri_of scope n.prefix)))) e

pub expands_plain : (scope : List Bound) (n : QualifiedName) → is_declaring n ≡ false → is_empty n.prefix ≡ true → expanded_name scope n ≡ Some (named_by [] n.local)
expands_plain scope n e f =
    ap (λ x. cond x (Some (named_by xmlns_uri n.local)) (cond (is_empty n.prefix) (Some (named_by [] n.local)) (option_map (λ u. named_by u n.local) (uri_of scope n.prefix)))) e
    ∙ ap (λ x. cond x (Some (named_by [] n.local)) (option_map (λ u. named_by u n.local) (uri_of scope n.prefix))) f

pub expands_prefixed : (scope : List Bound) (n : QualifiedName) → is_declaring n ≡ false → is_empty n.prefix ≡ false → expanded_name scope n ≡ option_map (λ u. named_by u n.local) (uri_of scope n.prefix)
expands_prefixed scope n e f =
    ap (λ x. cond x (Some (named_by xmlns_uri n.local)) (cond (is_empty n.prefix) (Some (named_by [] n.local)) (option_map (λ u. named_by u n.local) (uri_of scope n.prefix)))) e
    ∙ ap (λ x. cond x (Some (named_by [] n.local)) (option_map (λ u. named_by u n.local) (uri_of scope n.prefix))) f

pub expands_bound : {bs : List Bound} (scope : List Bound) (n : QualifiedName) (uri : List ℕ) → Tells bs scope → is_declaring n ≡ false → is_empty n.prefix ≡ false → Some uri ≡ shown bs n.prefix
    → expanded_name scope n ≡ Some (named_by uri n.local)
expands_bound scope n uri t e f g = expands_prefixed scope n e f ∙ ap (option_map (λ u. named_by u n.local)) (sym (t.tells n.prefix) ∙ sym g)

-- one name more
pub expanded_more : (scope : List Bound) (names : List Pair) (i : ℕ) (d : Pair) (old new : List Pair) (one : Pair) → i < length names
    → map (expanded_name scope) (map as_written (take i names)) ≡ map Some (map as_expanded old) → expanded_name scope (as_written (get_or names i d)) ≡ Some (as_expanded one) → new ≡ old ++ one ∷ []
    → map (expanded_name scope) (map as_written (take (i + 1) names)) ≡ map Some (map as_expanded new)
expanded_more scope names i d old new one l h k e =
    ap (λ w. map (expanded_name scope) (map as_written w)) (take_more names i d l)
    ∙ (ap (map (expanded_name scope)) (map-append as_written (take i names) (get_or names i d ∷ []))
    ∙ (map-append (expanded_name scope) (map as_written (take i names)) (as_written (get_or names i d) ∷ [])
    ∙ (ap (λ w. w ++ expanded_name scope (as_written (get_or names i d)) ∷ []) h
    ∙ (ap (λ w. map Some (map as_expanded old) ++ w ∷ []) k
    ∙ (sym (map-append Some (map as_expanded old) (as_expanded one ∷ []))
    ∙ ap (map Some) (sym (map-append as_expanded old (one ∷ [])) ∙ ap (map as_expanded) (sym e)))))))

-- the attributes that are no declarations, with these names
abbrev kept : List WrittenAttribute → List ExpandedName → List Attribute
kept [] ns = []
kept (w ∷ ws) [] = []
kept (w ∷ ws) (n ∷ ns) = cond (is_declaration w) (kept ws ns) (record { name = n; value = w.value; place = w.place } ∷ kept ws ns)

first_is : {X : Type 0} {x y : X} {xs ys : List X} → x ∷ xs ≡ y ∷ ys → x ≡ y
first_is e = cc

others_are : {X : Type 0} {x y : X} {xs ys : List X} → x ∷ xs ≡ y ∷ ys → xs ≡ ys
others_are e = cc

some_first : {X : Type 0} {x : X} {xs : List X} → x ∷ xs ≡ [] → ⊥
some_first e = cc

some_is : {X : Type 0} {x y : X} → Some x ≡ Some y → x ≡ y
some_is e = cc

none_some : {X : Type 0} {x : X} → None ≡ Some x → ⊥
none_some e = cc

abbrev name_of : WrittenAttribute → QualifiedName
name_of a = a.name

kept_expands : (scope : List Bound) (ws : List WrittenAttribute) (ns : List ExpandedName) → map (expanded_name scope) (map name_of ws) ≡ map Some ns → AllByRecursion IsLawful ws → Expands scope ws (kept ws ns)
kept_expands scope [] ns e h = no_more
kept_expands scope (w ∷ ws) [] e h = absurd (some_first e)
kept_expands scope (w ∷ ws) (n ∷ ns) e h = by (is_declaration w) refl (is_empty w.name.prefix) refl (kept_expands scope ws ns (others_are e) h.1)
  where
    first : expanded_name scope w.name ≡ Some n
    first = first_is e

    one : ExpandedName → Attribute
    one m = record { name = m; value = w.value; place = w.place }

    bound_to_some : is_declaration w ≡ false → is_empty w.name.prefix ≡ false → Expands scope ws (kept ws ns) → (o : Option (List ℕ)) → uri_of scope w.name.prefix ≡ o
        → option_map (λ u. named_by u w.name.local) o ≡ Some n → Expands scope (w ∷ ws) (one n ∷ kept ws ns)
    bound_to_some f g more None p q = absurd (none_some q)
    bound_to_some f g more (Some u) p q = subst (λ m. Expands scope (w ∷ ws) (one m ∷ kept ws ns)) (some_is q) (prefixed f g p more)

    by : (x : Bool) → is_declaration w ≡ x → (y : Bool) → is_empty w.name.prefix ≡ y → Expands scope ws (kept ws ns) → Expands scope (w ∷ ws) (cond x (kept ws ns) (one n ∷ kept ws ns))
    by true f y g more = declaration f (h.0 f) more
    by false f true g more = subst (λ m. Expands scope (w ∷ ws) (one m ∷ kept ws ns)) (some_is (sym (expands_plain scope w.name f g) ∙ first)) (plain f g more)
    by false f false g more = bound_to_some f g more (uri_of scope w.name.prefix) refl (sym (expands_prefixed scope w.name f g) ∙ first)

kept_all : (P : ExpandedName → Type 0) (ws : List WrittenAttribute) (ns : List ExpandedName) → AllByRecursion P ns → AllByRecursion P (map (λ (a : Attribute). a.name) (kept ws ns))
kept_all P [] ns h = tt
kept_all P (w ∷ ws) [] h = tt
kept_all P (w ∷ ws) (n ∷ ns) h = by (is_declaration w) (kept_all P ws ns h.1)
  where
    by : (x : Bool) → AllByRecursion P (map (λ (a : Attribute). a.name) (kept ws ns))
        → AllByRecursion P (map (λ (a : Attribute). a.name) (cond x (kept ws ns) (record { name = n; value = w.value; place = w.place } ∷ kept ws ns)))
    by true more = more
    by false more = (h.0, more)

kept_once : (ws : List WrittenAttribute) (ns : List ExpandedName) → IsDistinct same_name ns → IsDistinct same_name (map (λ (a : Attribute). a.name) (kept ws ns))
unfolding IsDistinct
kept_once [] ns h = tt
kept_once (w ∷ ws) [] h = tt
kept_once (w ∷ ws) (n ∷ ns) h = by (is_declaration w) (kept_once ws ns h.1)
  where
    by : (x : Bool) → IsDistinct same_name (map (λ (a : Attribute). a.name) (kept ws ns))
        → IsDistinct same_name (map (λ (a : Attribute). a.name) (cond x (kept ws ns) (record { name = n; value = w.value; place = w.place } ∷ kept ws ns)))
    by true more = more
    by false more = (kept_all (λ m. same_name n m ≡ false) ws ns h.0, more)

-- names that are written alike are expanded alike
same_self : (n : ExpandedName) → same_name n n ≡ true
same_self n = and_from (bytes_eq n.uri n.uri) (bytes_eq n.local n.local) ((bytes_decides n.uri n.uri).1 refl) ((bytes_decides n.local n.local).1 refl)

names_differ : (scope : List Bound) (m : QualifiedName) (n : ExpandedName) (ms : List QualifiedName) (ns : List ExpandedName) → expanded_name scope m ≡ Some n → map (expanded_name scope) ms ≡ map Some ns
    → AllByRecursion (λ j. same_name n j ≡ false) ns → AllByRecursion (λ k. same_written m k ≡ false) ms
names_differ scope m n [] ns e f h = tt
names_differ scope m n (k ∷ ms) [] e f h = absurd (some_first f)
names_differ scope m n (k ∷ ms) (j ∷ ns) e f h = (by (same_written m k) refl, names_differ scope m n ms ns e (others_are f) h.1)
  where
    by : (x : Bool) → same_written m k ≡ x → same_written m k ≡ false
    by true g =
        let alike : n ≡ j = some_is (sym e ∙ (ap (expanded_name scope) (is_name m k (sym g)) ∙ first_is f)) in
        absurd (true≢false (sym (same_self n) ∙ (ap (same_name n) alike ∙ h.0)))
    by false g = g

names_once : (scope : List Bound) (ms : List QualifiedName) (ns : List ExpandedName) → map (expanded_name scope) ms ≡ map Some ns → IsDistinct same_name ns → IsDistinct same_written ms
unfolding IsDistinct
names_once scope [] ns e h = tt
names_once scope (m ∷ ms) [] e h = absurd (some_first e)
names_once scope (m ∷ ms) (n ∷ ns) e h = (names_differ scope m n ms ns (first_is e) (others_are e) h.0, names_once scope ms ns (others_are e) h.1)

-- the whole tag
pub tag_is_shorter : {total : ℕ} {old new : Bindings} {text start behind rest : List ℕ} {w : QualifiedName} {names : List Pair} → text ≡ 0x3C ∷ start → QNameAt start w behind → AllRead total old behind new names rest → length rest < length text
tag_is_shorter {rest = rest} e q a = omega (arith, ap length e, qname_within q, attributes_within (a.parts.forth [] rest a.ends))

pub a_tag : (total : ℕ) (old new : Bindings) (text start behind rest : List ℕ) (w : QualifiedName) (n : ExpandedName) (names expanded : List Pair) → text ≡ 0x3C ∷ start → QNameAt start w behind
    → AllRead total old behind new names rest → ((scope : List Bound) → Tells (now_bound new) scope → ElementName scope w n) → AreExpanded new names expanded → IsDistinct same_pair expanded
    → (outer : List Bound) → Tells (now_bound old) outer → (inner : List Bound) × (x : List Attribute) × Tells (now_bound new) inner × TagAt false total outer text w inner n x rest
a_tag total old new text start behind rest w n names expanded e q a named are once outer t = (
  scope_within outer ws,
  kept ws ns,
  told,
  record {
    rest = start;
    past_name = behind;
    attributes = ws;
    opens = e;
    names = q;
    lists = subst (λ z. AttributesAt false total behind z rest) (append-nil ws) (a.parts.forth [] rest a.ends);
    means = record {
      once = names_once inner (map name_of ws) ns all apart;
      no_space = a.parts.no_space;
      scopes = refl;
      names = named inner told;
      expands = kept_expands inner ws ns all a.parts.lawful;
      expanded_once = kept_once ws ns apart;
    };
  },
)
  where
    ws : List WrittenAttribute
    ws = a.parts.written

    ns : List ExpandedName
    ns = map as_expanded expanded

    inner : List Bound
    inner = scope_within outer ws

    told : Tells (now_bound new) inner
    told = a.parts.tells outer t

    all : map (expanded_name inner) (map name_of ws) ≡ map Some ns
    all = ap (map (expanded_name inner)) (sym a.parts.notes) ∙ are inner told

    apart : IsDistinct same_name ns
    apart = distinct_expanded expanded once
