-- Namespace declarations and the names of a start tag (Namespaces in XML 1.0).
-- A scope with one binding for a prefix means the same in any order.
use Rattle.std.specs.Prelude.{◌≡◌, ℕ, Bool, ◌||◌, ◌&&◌, not, List, [], ◌∷◌, map, Option, None, Some, IsTrue, IsFalse, bytes_eq, codes, if◌then◌else◌}
use Rattle.std.specs.List.{IsDistinct, list_all}
use Rattle.tc_model.specs.Names.{ExpandedName, same_name, xmlns_uri}
pub use Rattle.tc_model.specs.Names.{xml_uri}
use Rattle.tc_model.specs.RawTrees.{Attribute, Bound}
use Rattle.tc_model.specs.XmlTextNames.{QualifiedName, same_written}

-- an attribute as it is written, with the place of its name's first byte
pub record WrittenAttribute : Type 0 where
  pub name : QualifiedName
  pub value : List ℕ
  pub place : ℕ

abbrev pub is_empty : List ℕ → Bool
is_empty bs = bytes_eq bs []

-- what is bound before any declaration
abbrev pub first_scope : List Bound
first_scope = record { prefix = codes "xml"; uri = xml_uri } ∷ []

-- the namespace name to which a prefix is bound, the empty prefix standing for the default namespace
abbrev pub uri_of : List Bound → List ℕ → Option (List ℕ)
uri_of [] prefix = None
uri_of (b ∷ scope) prefix = if bytes_eq b.prefix prefix then Some b.uri else uri_of scope prefix

-- a declaration is an attribute `xmlns` or `xmlns:NAME` (Namespaces, 3, [1] to [3])
abbrev pub is_default_declaration : WrittenAttribute → Bool
is_default_declaration a = is_empty a.name.prefix && bytes_eq a.name.local (codes "xmlns")

abbrev pub is_declaration : WrittenAttribute → Bool
is_declaration a = is_default_declaration a || bytes_eq a.name.prefix (codes "xmlns")

-- what a declaration binds
abbrev pub binding_of : WrittenAttribute → Bound
binding_of a = record { prefix = if is_default_declaration a then [] else a.name.local; uri = a.value }

-- Reserved Prefixes and Namespace Names, and No Prefix Undeclaring (Namespaces, 3 and 5)
pub record IsLawfulBinding (b : Bound) : Type 0 where
  pub not_xmlns : IsFalse (bytes_eq b.prefix (codes "xmlns"))
  pub not_to_xmlns : IsFalse (bytes_eq b.uri xmlns_uri)
  pub xml_to_its_own : bytes_eq b.prefix (codes "xml") ≡ bytes_eq b.uri xml_uri
  pub not_undeclaring : IsTrue (is_empty b.prefix || not (is_empty b.uri))

-- an empty namespace name, which the default namespace alone may have, leaves its prefix unbound and without a place: bound again, it comes last
abbrev pub bound_before : Bound → List Bound → List Bound
bound_before b scope = if is_empty b.uri then scope else b ∷ scope

-- a binding takes the place of the one of its prefix, or else comes last
abbrev pub bound_in : Bound → List Bound → List Bound
bound_in b [] = bound_before b []
bound_in b (c ∷ scope) = if bytes_eq c.prefix b.prefix then bound_before b scope else c ∷ bound_in b scope

-- what is in scope after the declarations among these attributes
abbrev pub scope_within : List Bound → List WrittenAttribute → List Bound
scope_within scope [] = scope
scope_within scope (a ∷ written) = scope_within (if is_declaration a then bound_in (binding_of a) scope else scope) written

-- the attributes other than declarations, with their expanded names: one without a prefix has no namespace (Namespaces, 6.2)
pub data Expands (scope : List Bound) : List WrittenAttribute → List Attribute → Type 0 where
  no_more : Expands scope [] []
  declaration : {a : WrittenAttribute} {written : List WrittenAttribute} {attributes : List Attribute}
      → IsTrue (is_declaration a) → IsLawfulBinding (binding_of a) → Expands scope written attributes → Expands scope (a ∷ written) attributes
  plain : {a : WrittenAttribute} {written : List WrittenAttribute} {attributes : List Attribute}
      → IsFalse (is_declaration a) → IsTrue (is_empty a.name.prefix) → Expands scope written attributes
      → Expands scope (a ∷ written) (record { name = record { uri = []; local = a.name.local }; value = a.value; place = a.place } ∷ attributes)
  prefixed : {a : WrittenAttribute} {uri : List ℕ} {written : List WrittenAttribute} {attributes : List Attribute}
      → IsFalse (is_declaration a) → IsFalse (is_empty a.name.prefix) → uri_of scope a.name.prefix ≡ Some uri → Expands scope written attributes
      → Expands scope (a ∷ written) (record { name = record { uri = uri; local = a.name.local }; value = a.value; place = a.place } ∷ attributes)

-- the expanded name of an element: without a prefix it takes the default namespace, or none (Namespaces, 6.1, 6.2)
pub data ElementName (scope : List Bound) : QualifiedName → ExpandedName → Type 0 where
  bound : {name : QualifiedName} {uri : List ℕ} → uri_of scope name.prefix ≡ Some uri → ElementName scope name (record { uri = uri; local = name.local })
  unbound : {name : QualifiedName} → IsTrue (is_empty name.prefix) → uri_of scope [] ≡ None → ElementName scope name (record { uri = []; local = name.local })

abbrev pub is_xml_space : WrittenAttribute → Bool
is_xml_space a = bytes_eq a.name.prefix (codes "xml") && bytes_eq a.name.local (codes "space")

-- A start tag's written name and attributes, and what they mean where `outer` is in scope. No two attributes have one written
-- name (XML, 3.1, Unique Att Spec) or one expanded name (Namespaces, 6.3), and `xml:space` isn't among them.
pub record TagMeans (outer : List Bound) (written : QualifiedName) (attributes : List WrittenAttribute)
    (scope : List Bound) (name : ExpandedName) (expanded : List Attribute) : Type 0 where
  pub once : IsDistinct same_written (map (λ a. a.name) attributes)
  pub no_space : IsTrue (list_all (λ a. not (is_xml_space a)) attributes)
  pub scopes : scope ≡ scope_within outer attributes
  pub names : ElementName scope written name
  pub expands : Expands scope attributes expanded
  pub expanded_once : IsDistinct same_name (map (λ a. a.name) expanded)
