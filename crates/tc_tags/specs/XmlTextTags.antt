-- The tags of an XML text, and which elements are open where one stands (XML 1.0, Fifth Edition, 3 and 3.1; Namespaces in XML 1.0, 3 and 4).
use Rattle.std.specs.Prelude.{◌≡◌, ℕ, suc, ◌+◌, ◌-◌, Bool, false, not, List, [], ◌∷◌, ◌++◌, length, sum_by, codes, IsTrue, if◌then◌else◌}
use Rattle.std.specs.List.{list_all}
use Rattle.tc_model.specs.Names.{ExpandedName}
use Rattle.tc_model.specs.RawTrees.{Attribute, Bound}
use Rattle.tc_model.specs.XmlTextBytes.{after_white}
use Rattle.tc_model.specs.XmlTextNames.{QualifiedName, QNameAt}
use Rattle.tc_model.specs.XmlTextMisc.{DeclarationAt, MiscAt, DoctypeAt}
use Rattle.tc_model.specs.XmlTextScopes.{WrittenAttribute, TagMeans, is_empty, is_declaration, binding_of, is_xml_space, first_scope}
use Rattle.tc_model.specs.XmlTextContent.{Piece, AttributesAt, ItemAt}
use Rattle.tc_model.specs.XmlText.{after_mark, deepest_element}

-- an element as its start tag or empty-element tag writes it: its name, and the attributes, namespace declarations among them
pub record WrittenElement : Type 0 where
  pub name : QualifiedName
  pub attributes : List WrittenAttribute

-- how many bytes a name has as it is written, the colon behind a prefix among them (Namespaces, 4, [7] to [11])
abbrev pub written_length : QualifiedName → ℕ
written_length n = if is_empty n.prefix then length n.local else length n.prefix + 1 + length n.local

-- how many bytes a declaration's prefix and namespace name have, an empty prefix none; an attribute that is no declaration counts nothing
abbrev pub declared_length : WrittenAttribute → ℕ
declared_length a = if is_declaration a then length (binding_of a).prefix + length (binding_of a).uri else 0

-- how many bytes the names of an element have: its own, and those of its declarations
abbrev pub names_length : WrittenElement → ℕ
names_length e = written_length e.name + sum_by declared_length e.attributes

-- the same of all elements that are open
abbrev pub open_names : List WrittenElement → ℕ
open_names elements = sum_by names_length elements

-- a start tag or an empty-element tag by its form, whatever its names mean, up to where it ends; `xml:space` isn't among its attributes (XML, 3.1, [40], [41], [44])
pub record TagFormAt (others : Bool) (total : ℕ) (bs : List ℕ) (element : WrittenElement) (after : List ℕ) : Type 0 where
  pub rest : List ℕ
  pub past_name : List ℕ
  pub opens : bs ≡ 0x3C ∷ rest
  pub names : QNameAt rest element.name past_name
  pub lists : AttributesAt others total past_name element.attributes after
  pub no_space : IsTrue (list_all (λ a. not (is_xml_space a)) element.attributes)

-- an end tag with this name, and what follows its `>` (XML, 3.1, [42])
pub record EndTagAt (name : QualifiedName) (bs after : List ℕ) : Type 0 where
  pub rest : List ℕ
  pub past_name : List ℕ
  pub opens : bs ≡ codes "</" ++ rest
  pub names : QNameAt rest name past_name
  pub closes : after_white past_name ≡ 0x3E ∷ after

-- a tag from its `<` through its `>`, and what follows that
pub data WholeTagAt (total : ℕ) : List ℕ → List ℕ → Type 0 where
  start_tag : {bs after : List ℕ} {element : WrittenElement} → TagFormAt false total bs element (0x3E ∷ after) → WholeTagAt total bs after
  empty_tag : {bs after : List ℕ} {element : WrittenElement} → TagFormAt false total bs element (codes "/>" ++ after) → WholeTagAt total bs after
  end_tag : {bs after : List ℕ} {name : QualifiedName} → EndTagAt name bs after → WholeTagAt total bs after

-- how many bytes a tag has that begins here and is followed by these bytes
abbrev pub tag_length : List ℕ → List ℕ → ℕ
tag_length bs after = length bs - length after

-- Reading comes to the root element, or to content, at these bytes: the elements that are open there, the innermost first, what is in scope, and how
-- many elements may still stand within one another there. What follows isn't looked at.
pub data ComesTo (text : List ℕ) : List WrittenElement → List Bound → ℕ → List ℕ → Type 0 where
  to_root : {past_declaration past_misc root : List ℕ}
      → DeclarationAt (after_mark text) past_declaration → MiscAt past_declaration past_misc → DoctypeAt past_misc root
      → ComesTo text [] first_scope deepest_element root
  into_element : {elements : List WrittenElement} {outer scope : List Bound} {deepest : ℕ} {bs inside : List ℕ}
      {element : WrittenElement} {name : ExpandedName} {expanded : List Attribute}
      → ComesTo text elements outer (suc deepest) bs → TagFormAt false (length text) bs element (0x3E ∷ inside)
      → TagMeans outer element.name element.attributes scope name expanded → ComesTo text (element ∷ elements) scope deepest inside
  past_item : {element : WrittenElement} {elements : List WrittenElement} {scope : List Bound} {deepest : ℕ} {bs rest : List ℕ} {piece : Piece}
      → ComesTo text (element ∷ elements) scope deepest bs → ItemAt false (length text) scope deepest bs piece rest
      → ComesTo text (element ∷ elements) scope deepest rest
