-- The parts of a tag by its form, and what it means that there is none.
use Rattle.std.specs.Prelude.{◌≡◌, ◌+◌, ℕ, Bool, List, ◌∷◌, length, not, false, IsFalse, codes, if◌then◌else◌}
use Rattle.std.specs.List.{list_all}
use Rattle.tc_base.specs.declared.reasons.Why.{Why}
use Rattle.tc_model.specs.XmlTextBytes.{BeginsWithWhite, after_white, EqualsAt, place_of, IsQuote}
use Rattle.tc_model.specs.XmlTextNames.{QualifiedName, QNameAt}
use Rattle.tc_model.specs.XmlTextReferences.{QuotedAt, ValueAt}
use Rattle.tc_model.specs.XmlTextScopes.{WrittenAttribute, is_xml_space}
use Rattle.tc_tags.specs.Spans.{at_span}
use Rattle.tc_tags.specs.XmlTextTags.{WrittenElement, TagFormAt}
use Rattle.tc_tags.specs.declared.names.WrittenName.{WrittenName}
use Rattle.tc_tags.specs.declared.tags.Form.{Form}
use Rattle.tc_tags.specs.declared.tags.NoForm.{NoForm}
use Rattle.tc_tags.specs.declared.tags.NoForm.TheVariants.{Malformed, Unsupported}

-- one attribute after white space, which is not `xml:space`
pub record AttributeAt (others : Bool) (total : ℕ) (bs : List ℕ) (a : WrittenAttribute) (after : List ℕ) : Type 0 where
  pub past_name : List ℕ
  pub start : List ℕ
  pub white : BeginsWithWhite bs
  pub names : QNameAt (after_white bs) a.name past_name
  pub equals : EqualsAt past_name start
  pub quoted : QuotedAt others start a.value after
  pub stands : a.place ≡ place_of total (after_white bs)
  pub no_space : IsFalse (is_xml_space a)

-- a name stands in a tag
pub record IsNameAt (tag : List ℕ) (spans : WrittenName) (name : QualifiedName) : Type 0 where
  pub prefix : at_span spans.prefix tag ≡ name.prefix
  pub local : at_span spans.local tag ≡ name.local

-- a value in quotes is read at the front of what is left of so many bytes: where it begins, its quote, and what follows it
pub record ValueRead (total : ℕ) (text : List ℕ) (start quote : ℕ) (value after : List ℕ) : Type 0 where
  pub inside : List ℕ
  pub is_quote : IsQuote quote
  pub opens : text ≡ quote ∷ inside
  pub closes : ValueAt false quote inside value after
  pub stands : start + length inside ≡ total

abbrev pub lacks_space : List WrittenAttribute → Bool
lacks_space attributes = list_all (λ a. not (is_xml_space a)) attributes

-- a whole tag is read so
pub record FormRead (tag : List ℕ) (f : Form) (e : WrittenElement) : Type 0 where
  pub form : TagFormAt false (length tag) tag e (if f.is_empty then codes "/>" else codes ">")
  pub name : IsNameAt tag f.name e.name

-- nothing is said of a construct that isn't read
abbrev pub IsStop : NoForm → Type 0
IsStop (Malformed at) = Unit {0}
IsStop (Unsupported at why) = ⊥

-- Malformed is said only where `any` holds, that there is no reading, not even with references to other entities; Unsupported only where `strict` holds, that
-- there is none without them.
abbrev pub Refuses : NoForm → Type 0 → Type 0 → Type 0
Refuses (Malformed at) any strict = any
Refuses (Unsupported at why) any strict = strict

-- Unsupported is said only of a construct that `stands` at this place of a tag of so many bytes.
abbrev pub UnsupportedAt : ℕ → NoForm → (Why → List ℕ → Type 0) → Type 0
UnsupportedAt total (Malformed at) stands = Unit {0}
UnsupportedAt total (Unsupported at why) stands = (left : List ℕ) × (at + length left ≡ total) × stands why left

-- This holds where Malformed is said.
abbrev pub OnMalformed : NoForm → Type 0 → Type 0
OnMalformed (Malformed at) P = P
OnMalformed (Unsupported at why) P = Unit {0}
