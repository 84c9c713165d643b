-- Names of elements as they are written, of which it is remembered what they mean.
use Rattle.std.specs.Prelude.{◌≡◌, ◌≤◌, ℕ, List, ◌∷◌, length, Option, All, IfSome}
use Rattle.tc_model.specs.Names.{ExpandedName}
use Rattle.tc_model.specs.RawTrees.{Bound}
use Rattle.tc_model.specs.Views.{name}
use Rattle.tc_model.specs.XmlTextNames.{QualifiedName, QNameAt}
use Rattle.tc_model.specs.XmlTextScopes.{ElementName}
use Rattle.tc_scan.specs.Views.{written_name}
use Rattle.tc_xml.specs.Bindings.{Tells, now_bound}
use Rattle.tc_xml.specs.PlainTags.{TagRead}
use Rattle.tc_xml.specs.declared.bindings.Bindings.{Bindings}
use Rattle.tc_xml.specs.declared.plain_tags.Tag.{Tag}
use Rattle.tc_xml.specs.declared.spelled.Spelled.{Spelled}
use Rattle.tc_xml.specs.declared.spelled.SpelledNames.{SpelledNames}

-- a name that was read somewhere, and its expanded name, where this is in scope
pub record Means (scope : List Bound) (written : QualifiedName) (expanded : ExpandedName) : Type 0 where
  pub bytes : List ℕ
  pub past : List ℕ
  pub reads : QNameAt bytes written past
  pub names : ElementName scope written expanded

-- the same in each scope that is told by these bindings
abbrev pub MeansBy : List Bound → QualifiedName → ExpandedName → Type 0
MeansBy bounds written expanded = (scope : List Bound) → Tells bounds scope → Means scope written expanded

-- what is remembered since the last change is true of what is bound now, and nothing is remembered under a later one
pub record IsRight (bounds : List Bound) (changes : ℕ) (s : Spelled) : Type 0 where
  pub earlier : s.changes ≤ changes
  pub means : s.changes ≡ changes → MeansBy bounds (written_name s.written) (name s.name)

pub record AreRight (bounds : List Bound) (known : SpelledNames) : Type 0 where
  pub all : All (λ (o : Option Spelled). IfSome o (λ (s : Spelled). IsRight bounds known.changes s)) known.places.items

-- a start tag of a name and nothing else, and what it means in each scope that is told
pub record IsNameAlone (bounds : List Bound) (text : List ℕ) (tag : Tag) : Type 0 where
  pub start : List ℕ
  pub inside : List ℕ
  pub opens : text ≡ 0x3C ∷ start
  pub ends : tag.rest.now ≡ 0x3E ∷ inside
  pub within : length tag.rest.now ≤ length start
  pub reads : (scope : List Bound) → Tells bounds scope → QNameAt start (written_name tag.written) tag.rest.now
  pub means : (scope : List Bound) → Tells bounds scope → ElementName scope (written_name tag.written) (name tag.name)

-- a tag is read, and what is remembered is true of what is bound then
pub record TagReadBy (old : Bindings) (text : List ℕ) (tag : Tag) (new : Bindings) (known : SpelledNames) : Type 0 where
  pub reads : (total : ℕ) → TagRead total old text tag new
  pub right : AreRight (now_bound new) known
