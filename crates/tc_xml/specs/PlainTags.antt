-- Tags whose attributes are dropped, part by part.
use Rattle.std.specs.Prelude.{◌≡◌, ◌<◌, ℕ, false, not, List, [], ◌∷◌, ◌++◌, map, length, Option, Some, option_map, IsTrue, if◌then◌else◌}
use Rattle.std.specs.List.{AllByRecursion, list_all}
use Rattle.tc_model.specs.Names.{ExpandedName, xmlns_uri}
use Rattle.tc_model.specs.RawTrees.{Attribute, Bound}
use Rattle.tc_model.specs.Views.{name}
use Rattle.tc_model.specs.XmlTextNames.{QualifiedName}
use Rattle.tc_model.specs.XmlTextContent.{AttributesAt, TagAt}
use Rattle.tc_model.specs.XmlTextReferences.{QuotedAt}
use Rattle.tc_model.specs.XmlTextScopes.{WrittenAttribute, is_empty, is_declaration, binding_of, bound_in, IsLawfulBinding, is_xml_space, scope_within, uri_of}
use Rattle.tc_scan.specs.Views.{written_name}
use Rattle.tc_xml.specs.Bindings.{Tells, Binds, Declares, now_bound}
use Rattle.tc_xml.specs.Bounds.{bound_to}
use Rattle.tc_tags.specs.Pairs.{Pair}
use Rattle.tc_xml.specs.Reading.{AttributeAt}
use Rattle.tc_xml.specs.Tags.{is_declaring, declared_prefix}
use Rattle.tc_xml.specs.declared.bindings.Bindings.{Bindings}
use Rattle.tc_xml.specs.declared.plain_tags.Tag.{Tag}

-- a name as it is written in two parts, and an expanded one, whose local part comes first
abbrev pub as_written : Pair → QualifiedName
as_written p = record { prefix = p.0.now; local = p.1.now }

abbrev pub as_expanded : Pair → ExpandedName
as_expanded p = record { uri = p.1.now; local = p.0.now }

-- The name by which an attribute with this name is told from others, if it has one: its expanded name, but that a declaration is put into the
-- namespace of declarations, `xmlns` too, which by Namespaces 6.2 has none. In a lawful scope no other attribute is in it: so names that are written
-- alike, and expanded names that are the same, are found in one list.
abbrev pub expanded_name : List Bound → QualifiedName → Option ExpandedName
expanded_name scope n =
    if is_declaring n then Some (record { uri = xmlns_uri; local = n.local })
    else if is_empty n.prefix then Some (record { uri = []; local = n.local })
    else option_map (λ u. record { uri = u; local = n.local }) (uri_of scope n.prefix)

-- a declaration binds what it may
abbrev pub IsLawful : WrittenAttribute → Type 0
IsLawful a = IsTrue (is_declaration a) → IsLawfulBinding (binding_of a)

-- the namespace name of a declaration is read, and the prefix is bound to it
pub record DeclarationRead (old : Bindings) (prefix text : List ℕ) (new : Bindings) (rest : List ℕ) : Type 0 where
  pub uri : List ℕ
  pub quoted : QuotedAt false text uri rest
  pub lawful : IsLawfulBinding (bound_to prefix uri)
  pub binds : Binds old (bound_to prefix uri) new

-- the value of an attribute with this name is read, and what it declares is bound
pub record ValueRead (old : Bindings) (n : QualifiedName) (text : List ℕ) (new : Bindings) (rest : List ℕ) : Type 0 where
  pub value : List ℕ
  pub quoted : QuotedAt false text value rest
  pub lawful : IsTrue (is_declaring n) → IsLawfulBinding (bound_to (declared_prefix n) value)
  pub declares : Declares old new
  pub tells : (scope : List Bound) → Tells (now_bound old) scope → Tells (now_bound new) (if is_declaring n then bound_in (bound_to (declared_prefix n) value) scope else scope)

-- one attribute is read: its name is noted, and what it declares is bound
pub record AttributeRead (total : ℕ) (old : Bindings) (names : List Pair) (text : List ℕ) (new : Bindings) (noted : List Pair) (rest : List ℕ) : Type 0 where
  pub written : WrittenAttribute
  pub reads : AttributeAt false total text written rest
  pub notes : map as_written noted ≡ map as_written names ++ written.name ∷ []
  pub lawful : IsLawful written
  pub declares : Declares old new
  pub tells : (scope : List Bound) → Tells (now_bound old) scope → Tells (now_bound new) (scope_within scope (written ∷ []))

-- some attributes are read, from the front of the text to what is left of it: with any others behind them they are attributes of the text
pub record AttributesRead (total : ℕ) (old : Bindings) (text : List ℕ) (new : Bindings) (names : List Pair) (rest : List ℕ) : Type 0 where
  pub written : List WrittenAttribute
  pub forth : (list : List WrittenAttribute) (after : List ℕ) → AttributesAt false total rest list after → AttributesAt false total text (written ++ list) after
  pub no_space : IsTrue (list_all (λ a. not (is_xml_space a)) written)
  pub notes : map as_written names ≡ map (λ a. a.name) written
  pub lawful : AllByRecursion IsLawful written
  pub declares : Declares old new
  pub tells : (scope : List Bound) → Tells (now_bound old) scope → Tells (now_bound new) (scope_within scope written)

-- all attributes are read, up to where the tag ends
pub record AllRead (total : ℕ) (old : Bindings) (text : List ℕ) (new : Bindings) (names : List Pair) (rest : List ℕ) : Type 0 where
  pub past : List ℕ
  pub parts : AttributesRead total old text new names past
  pub ends : AttributesAt false total past [] rest

-- by these names these attributes are told from one another, whatever the scope that is told
abbrev pub AreExpanded : Bindings → List Pair → List Pair → Type 0
AreExpanded b names expanded = (scope : List Bound) → Tells (now_bound b) scope → map (expanded_name scope) (map as_written names) ≡ map Some (map as_expanded expanded)

-- a tag is read: what it declares is bound, and in any scope that was told before it means this
pub record TagRead (total : ℕ) (old : Bindings) (text : List ℕ) (tag : Tag) (new : Bindings) : Type 0 where
  pub shorter : length tag.rest.now < length text
  pub declares : Declares old new
  pub reads : (outer : List Bound) → Tells (now_bound old) outer
      → (inner : List Bound) × (expanded : List Attribute) × Tells (now_bound new) inner
      × TagAt false total outer text (written_name tag.written) inner (name tag.name) expanded tag.rest.now
