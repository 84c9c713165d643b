-- The steps in which tags and content are read, and what they say of what is gathered.
use Rattle.std.specs.Prelude.{◌≡◌, ℕ, Bool, false, List, ◌∷◌, ◌++◌, codes}
use Rattle.tc_model.specs.RawTrees.{Bound, RawTrees, none, text, element}
use Rattle.tc_model.specs.XmlTextNames.{QualifiedName, QNameAt}
use Rattle.tc_model.specs.XmlTextContent.{Piece, piece_before, ContentAt, ItemAt}
use Rattle.tc_model.specs.XmlTextRefusals.{Cause, ContentRefuses}
use Rattle.tc_xml.specs.declared.content.Gathered.{Gathered}
use Rattle.tc_xml.specs.Views.{gathered_before}
pub use Rattle.tc_tags.specs.Forms.{AttributeAt}
pub use Rattle.tc_tags.specs.XmlTextTags.{EndTagAt}

-- a `<` and a name
pub record OpensElement (bs : List ℕ) : Type 0 where
  pub rest : List ℕ
  pub name : QualifiedName
  pub past_name : List ℕ
  pub opens : bs ≡ 0x3C ∷ rest
  pub names : QNameAt rest name past_name

-- what follows a tag up to where it ends: the mark of an empty element, or content and an end tag with this name
pub data BodyAt (others : Bool) (total : ℕ) (scope : List Bound) (deepest : ℕ) (name : QualifiedName) : List ℕ → RawTrees → List ℕ → Type 0 where
  empty : {bs after : List ℕ} → bs ≡ codes "/>" ++ after → BodyAt others total scope deepest name bs none after
  filled : {bs inside end after : List ℕ} {kids : RawTrees} → bs ≡ 0x3E ∷ inside → ContentAt others total scope deepest inside kids end
      → EndTagAt name end after → BodyAt others total scope deepest name bs kids after

-- its content is refused
pub record BodyRefuses (total : ℕ) (scope : List Bound) (deepest : ℕ) (bs : List ℕ) (cause : Cause) (at : List ℕ) : Type 0 where
  pub inside : List ℕ
  pub opens : bs ≡ 0x3E ∷ inside
  pub refuses : ContentRefuses total scope deepest inside cause at

-- an item that is no element, in any scope and at any depth
abbrev pub SmallItemAt : ℕ → List ℕ → Piece → List ℕ → Type 0
SmallItemAt total bs piece after = (outer : List Bound) (deepest : ℕ) → ItemAt false total outer deepest bs piece after

-- no item stands at the front
abbrev pub LacksItem : Bool → ℕ → List ℕ → Type 0
LacksItem others total bs = (outer : List Bound) (deepest : ℕ) (piece : Piece) (after : List ℕ) → ItemAt others total outer deepest bs piece after → ⊥

-- what was gathered has this piece more
abbrev pub AddsPiece : Gathered → Gathered → Piece → Type 0
AddsPiece old new p = (h : RawTrees) → gathered_before new h ≡ gathered_before old (piece_before p h)

-- what was gathered has this content more, after which nothing comes
abbrev pub AddsContent : Gathered → Gathered → RawTrees → Type 0
AddsContent old new h = gathered_before new none ≡ gathered_before old h

-- no text begins these trees
abbrev pub BeginsWithNoText : RawTrees → Type 0
BeginsWithNoText none = Unit {0}
BeginsWithNoText (text s p rest) = ⊥
BeginsWithNoText (element n attributes scope p kids rest) = Unit {0}
