-- The syntax tree of a text is lawful.
use Rattle.std.proofs.Common.{◌≡◌, ◌≤◌, ℕ, Bool, true, false, cond, List, [], ◌∷◌, ◌++◌, refl, sym, subst, arith, Option, None, Some, bytes_eq, length}
use Rattle.std.specs.List.{AllByRecursion}
use Rattle.tc_model.specs.Names.{ExpandedName, IsChars, IsName, IsNamespaceName, IsNcName}
use Rattle.tc_model.specs.RawTrees.{Bound}
use Rattle.tc_model.specs.XmlTextScopes.{uri_of}
use Rattle.tc_model.specs.CompactSyntaxTrees.{SyntaxClass, SyntaxClasses, no_class, class, SyntaxPattern, SyntaxPatterns, no_more, Definition, Syntax}
use Rattle.tc_model.specs.CompactSyntaxTrees as tree
use Rattle.tc_model.specs.CompactSyntaxTokens.{Word, a_name, escaped, prefixed, all_of, literal, long_literal, mark, Token}
use Rattle.tc_model.specs.CompactSyntaxNames.{identifier, is_keyword, IsLiteral, DeclarationAt, namespace, default_namespace, both, datatypes, or_none, named_in, name_in, ClassAt, alone, several, ClassesAt, last, more, SimpleAt, name, whole_namespace, any, parentheses, ExceptAt, nothing, except}
use Rattle.tc_model.specs.CompactSyntaxPatterns as p
use Rattle.tc_model.specs.CompactSyntaxPatterns.{Connector, comma, bar, ampersand, joined_by, Suffix, question_mark, asterisk, plus_sign, suffixed, BalancedAt, closed, nested, other, PatternAt, ItemsAt, and_more, ItemAt, bare, with_suffix, PrimaryAt, an_element, an_attribute, a_mixed, an_empty, a_text, a_not_allowed, reference, a_datum}
use Rattle.tc_model.specs.CompactSyntax as c
use Rattle.tc_model.specs.CompactSyntax.{OperatorAt, equals, bar_equals, ampersand_equals, DefinitionAt, of_start, of_name, div, DefinitionsAt, at_end, at_brace, SchemaAt, declaration, one_pattern, definitions, grammar, Spells}
use Rattle.tc_model.specs.CompactSyntaxLawful.{IsLawfulClass, AreLawfulClasses, IsLawfulPattern, AreLawfulPatterns, IsLawfulSyntax}
use Rattle.tc_model.proofs.XmlTextTrees.{no_uri, first_lawful, mark_chars}
use Rattle.tc_model.proofs.CompactSyntaxTokensLawful.{IsLawfulWord, AreLawful, tokens_lawful}
use Rattle.tc_model.proofs.CompactSyntaxClassesUnique.{same_some, some_none}
use Rattle.tc_model.proofs.CompactSyntaxOrdered.{spells_ordered}

abbrev AllBound : List Bound → Type 0
AllBound scope = AllByRecursion (λ b. IsNamespaceName b.uri) scope

uri_lawful : (scope : List Bound) (prefix uri : List ℕ) → AllBound scope → uri_of scope prefix ≡ Some uri → IsNamespaceName uri
uri_lawful [] prefix uri h e = absurd (some_none e refl)
uri_lawful (b ∷ scope) prefix uri (k, h) e = by (bytes_eq b.prefix prefix) e (uri_lawful scope prefix uri h)
  where
    by : (x : Bool) → cond x (Some b.uri) (uri_of scope prefix) ≡ Some uri → (uri_of scope prefix ≡ Some uri → IsNamespaceName uri) → IsNamespaceName uri
    by true e later = let same : b.uri ≡ uri = same_some refl e in subst IsNamespaceName same k
    by false e later = later e

default_lawful : (scope : List Bound) → AllBound scope → IsNamespaceName (or_none (uri_of scope []))
default_lawful scope h = by (uri_of scope []) refl
  where
    by : (o : Option (List ℕ)) → uri_of scope [] ≡ o → IsNamespaceName (or_none o)
    by None e = no_uri
    by (Some uri) e = uri_lawful scope [] uri h e

name_lawful : (scope : List Bound) (w : Word) (n : ExpandedName) → AllBound scope → IsLawfulWord w → name_in scope w ≡ Some n → IsName n
name_lawful scope (a_name m) n h k e = subst IsName (same_some refl e) (default_lawful scope h, k)
name_lawful scope (escaped m) n h k e = subst IsName (same_some refl e) (default_lawful scope h, k)
name_lawful scope (prefixed q m) n h k e = by (uri_of scope q) refl e
  where
    by : (o : Option (List ℕ)) → uri_of scope q ≡ o → named_in o m ≡ Some n → IsName n
    by None f e = absurd (some_none e refl)
    by (Some uri) f e = subst IsName (same_some refl e) (uri_lawful scope q uri h f, k)
name_lawful scope (all_of q) n h k e = absurd (some_none e refl)
name_lawful scope (literal s) n h k e = absurd (some_none e refl)
name_lawful scope (long_literal s) n h k e = absurd (some_none e refl)
name_lawful scope (mark m) n h k e = absurd (some_none e refl)

identifier_lawful : (w : Word) (n : List ℕ) → IsLawfulWord w → identifier w ≡ Some n → IsNcName n
identifier_lawful (a_name m) n h e = by (is_keyword m) e
  where
    by : (x : Bool) → cond x None (Some m) ≡ Some n → IsNcName n
    by true e = absurd (some_none e refl)
    by false e = subst IsNcName (same_some refl e) h
identifier_lawful (escaped m) n h e = subst IsNcName (same_some refl e) h
identifier_lawful (prefixed p m) n h e = absurd (some_none e refl)
identifier_lawful (all_of p) n h e = absurd (some_none e refl)
identifier_lawful (literal s) n h e = absurd (some_none e refl)
identifier_lawful (long_literal s) n h e = absurd (some_none e refl)
identifier_lawful (mark c) n h e = absurd (some_none e refl)

literal_lawful : {uri : List ℕ} {t : Token} → IsLiteral uri t → IsLawfulWord t.word → IsChars uri
literal_lawful a h = subst IsLawfulWord a.word h

-- in a text of so many bytes
module _ (total : ℕ) where
  declaration_lawful : {scope within : List Bound} {ts r : List Token} → DeclarationAt scope ts within r → AllBound scope → AreLawful total ts → AllBound within × AreLawful total r
  declaration_lawful (namespace a b c d e) k (t, (u, (v, (w, rest)))) = (((literal_lawful d w.1, e.lawful), k), rest)
  declaration_lawful (default_namespace a b c d e) k (s, (t, (u, (v, rest)))) = (((literal_lawful d v.1, e.lawful), k), rest)
  declaration_lawful (both a b c d e f g) k (s, (t, (u, (v, (w, rest))))) = (((literal_lawful e w.1, f.lawful), ((literal_lawful e w.1, g.lawful), k)), rest)
  declaration_lawful (datatypes a b c d) k (t, (u, (v, (w, rest)))) = (k, rest)

  no_empty_classes : {c : SyntaxClass} {cs : SyntaxClasses} → class c cs ≡ no_class → ⊥
  no_empty_classes e = cc

  no_empty_patterns : {q : SyntaxPattern} {qs : SyntaxPatterns} → tree.more q qs ≡ no_more → ⊥
  no_empty_patterns e = cc

  mutual
    class_lawful : {scope : List Bound} {d : ℕ} {ts r : List Token} {c : SyntaxClass} → ClassAt scope d ts c r → AllBound scope → AreLawful total ts → IsLawfulClass total c × AreLawful total r
    class_lawful (alone a h) k l = simple_lawful a k l
    class_lawful (several a e m) k l =
        let (one, rest) = simple_lawful a k l in
        let (others, after) = classes_lawful m k rest.1 in
        ((λ e. no_empty_classes e, (one, others)), after)

    classes_lawful : {scope : List Bound} {d : ℕ} {ts r : List Token} {c : SyntaxClasses} → ClassesAt scope d ts c r → AllBound scope → AreLawful total ts → AreLawfulClasses total c × AreLawful total r
    classes_lawful (last a h) k l = let (one, rest) = simple_lawful a k l in ((one, tt), rest)
    classes_lawful (more a e m) k l =
        let (one, rest) = simple_lawful a k l in
        let (others, after) = classes_lawful m k rest.1 in
        ((one, others), after)

    simple_lawful : {scope : List Bound} {d : ℕ} {ts r : List Token} {c : SyntaxClass} → SimpleAt scope d ts c r → AllBound scope → AreLawful total ts → IsLawfulClass total c × AreLawful total r
    simple_lawful {scope} (name {t = t} {n = n} e) k (l, rest) = (name_lawful scope t.word n k l.1 e, rest)
    simple_lawful {scope} (whole_namespace {prefix = q} {uri = u} a e m) k (l, rest) = let (x, after) = except_lawful m k rest in ((l.0, uri_lawful scope q u k e, x), after)
    simple_lawful (any a m) k (l, rest) = let (x, after) = except_lawful m k rest in ((l.0, x), after)
    simple_lawful (parentheses a m b) k (l, rest) = let (x, after) = class_lawful m k rest in (x, after.1)

    except_lawful : {scope : List Bound} {d : ℕ} {ts r : List Token} {c : SyntaxClasses} → ExceptAt scope d ts c r → AllBound scope → AreLawful total ts → AreLawfulClasses total c × AreLawful total r
    except_lawful (nothing h) k l = (tt, l)
    except_lawful (except a m) k (l, rest) = let (x, after) = simple_lawful m k rest in ((x, tt), after)

  balanced_lawful : {d : ℕ} {ts r : List Token} → BalancedAt d ts r → AreLawful total ts → AreLawful total r
  balanced_lawful (closed e) (l, rest) = rest
  balanced_lawful (nested e m n) (l, rest) = balanced_lawful n (balanced_lawful m rest)
  balanced_lawful (other h k m) (l, rest) = balanced_lawful m rest

  joined_lawful : (c : Connector) (q : SyntaxPattern) (qs : SyntaxPatterns) → IsLawfulPattern total q → AreLawfulPatterns total qs → IsLawfulPattern total (joined_by c (tree.more q qs))
  joined_lawful comma q qs a b = (λ e. no_empty_patterns e, (a, b))
  joined_lawful bar q qs a b = (λ e. no_empty_patterns e, (a, b))
  joined_lawful ampersand q qs a b = (λ e. no_empty_patterns e, (a, b))

  suffixed_lawful : (s : Suffix) (q : SyntaxPattern) → IsLawfulPattern total q → IsLawfulPattern total (suffixed s q)
  suffixed_lawful question_mark q a = a
  suffixed_lawful asterisk q a = a
  suffixed_lawful plus_sign q a = a

  mutual
    pattern_lawful : {o : Bool} {scope : List Bound} {d : ℕ} {ts r : List Token} {q : SyntaxPattern} → PatternAt o scope d ts q r → AllBound scope → AreLawful total ts → IsLawfulPattern total q × AreLawful total r
    pattern_lawful (p.alone a h) k l = item_lawful a k l
    pattern_lawful (p.several {p = q} {ps = qs} {c = c} a e m) k l =
        let (one, rest) = item_lawful a k l in
        let (others, after) = items_lawful m k rest.1 in
        (joined_lawful c q qs one others, after)

    items_lawful : {o : Bool} {scope : List Bound} {c : Connector} {d : ℕ} {ts r : List Token} {qs : SyntaxPatterns} → ItemsAt o scope c d ts qs r → AllBound scope → AreLawful total ts → AreLawfulPatterns total qs × AreLawful total r
    items_lawful (p.last a h) k l = let (one, rest) = item_lawful a k l in ((one, tt), rest)
    items_lawful (and_more a e m) k l =
        let (one, rest) = item_lawful a k l in
        let (others, after) = items_lawful m k rest.1 in
        ((one, others), after)

    item_lawful : {o : Bool} {scope : List Bound} {d : ℕ} {ts r : List Token} {q : SyntaxPattern} → ItemAt o scope d ts q r → AllBound scope → AreLawful total ts → IsLawfulPattern total q × AreLawful total r
    item_lawful (bare a h) k l = primary_lawful a k l
    item_lawful (with_suffix {p = q} {s = s} a e) k l = let (one, rest) = primary_lawful a k l in (suffixed_lawful s q one, rest.1)

    primary_lawful : {o : Bool} {scope : List Bound} {d : ℕ} {ts r : List Token} {q : SyntaxPattern} → PrimaryAt o scope d ts q r → AllBound scope → AreLawful total ts → IsLawfulPattern total q × AreLawful total r
    primary_lawful (an_element a m b n c) k (l, rest) =
        let (names, inside) = class_lawful m k rest in
        let (inner, after) = pattern_lawful n k inside.1 in
        ((l.0, names, inner), after.1)
    primary_lawful (an_attribute a m b n) k (l, rest) =
        let (names, inside) = class_lawful m k rest in
        (tt, balanced_lawful n inside.1)
    primary_lawful (a_mixed a b m c) k (l, (u, rest)) = let (inner, after) = pattern_lawful m k rest in (inner, after.1)
    primary_lawful (an_empty a) k (l, rest) = (tt, rest)
    primary_lawful (a_text a) k (l, rest) = (tt, rest)
    primary_lawful (a_not_allowed a) k (l, rest) = (tt, rest)
    primary_lawful (reference {t = t} {n = n} a) k (l, rest) = ((l.0, identifier_lawful t.word n l.1 a), rest)
    primary_lawful (a_datum h a) k (l, rest) = ((λ e. no_empty_patterns e, (tt, (tt, tt))), rest)
    primary_lawful (p.parentheses a m b) k (l, rest) = let (inner, after) = pattern_lawful m k rest in (inner, after.1)

  operator_lawful : {ts r : List Token} {j : tree.Joins} → OperatorAt ts j r → AreLawful total ts → AreLawful total r
  operator_lawful (equals e) (l, rest) = rest
  operator_lawful (bar_equals e f g) (l, (u, rest)) = rest
  operator_lawful (ampersand_equals e f g) (l, (u, rest)) = rest

  abbrev AllDefined : List Definition → Type 0
  AllDefined ds = AllByRecursion (λ d. (d.place ≤ total) × IsLawfulPattern total d.body) ds

  join_defined : (ds es : List Definition) → AllDefined ds → AllDefined es → AllDefined (ds ++ es)
  join_defined [] es h k = k
  join_defined (d ∷ ds) es (a, h) k = (a, join_defined ds es h k)

  mutual
    definition_lawful : {o : Bool} {scope : List Bound} {d : ℕ} {ts r : List Token} {ds : List Definition} → DefinitionAt o scope d ts ds r → AllBound scope → AreLawful total ts → AllDefined ds × AreLawful total r
    definition_lawful (of_start a o m) k (l, rest) = let (body, after) = pattern_lawful m k (operator_lawful o rest) in (((l.0, body), tt), after)
    definition_lawful (of_name a o m) k (l, rest) = let (body, after) = pattern_lawful m k (operator_lawful o rest) in (((l.0, body), tt), after)
    definition_lawful (div a b m c) k (l, (u, rest)) = let (ds, after) = definitions_lawful m k rest in (ds, after.1)

    definitions_lawful : {o : Bool} {scope : List Bound} {d : ℕ} {ts r : List Token} {ds : List Definition} → DefinitionsAt o scope d ts ds r → AllBound scope → AreLawful total ts → AllDefined ds × AreLawful total r
    definitions_lawful at_end k l = (tt, l)
    definitions_lawful (at_brace e) k l = (tt, l)
    definitions_lawful (c.more {ds = ds} {es = es} a m) k l =
        let (front, rest) = definition_lawful a k l in
        let (back, after) = definitions_lawful m k rest in
        (join_defined ds es front back, after)

  schema_lawful : {o : Bool} {scope : List Bound} {d : ℕ} {ts : List Token} {ds : List Definition} → SchemaAt o scope d ts ds → AllBound scope → AreLawful total ts → AllDefined ds
  schema_lawful (declaration a m) k l = let (within, rest) = declaration_lawful a k l in schema_lawful m within rest
  schema_lawful (one_pattern a) k l = ((omega arith, (pattern_lawful a k l).0), tt)
  schema_lawful (definitions a) k l = (definitions_lawful a k l).0
  schema_lawful (grammar a b m c) k (l, (u, rest)) = (definitions_lawful m k rest).0

pub spells_lawful : {o : Bool} {d : ℕ} {bytes : List ℕ} {s : Syntax} → Spells o d bytes s → IsLawfulSyntax s
spells_lawful {bytes = bytes} {s = s} a = record {
  definitions = subst (λ n. AllDefined n s.definitions) (sym a.end) (schema_lawful (length bytes) a.schema (first_lawful.0.uri, tt) (tokens_lawful a.words (mark_chars bytes a.characters)));
  in_order = spells_ordered a;
}
