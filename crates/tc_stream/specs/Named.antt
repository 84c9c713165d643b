-- Tags that are a name alone.
use Rattle.std.specs.Prelude.{◌≡◌, ℕ, false, List, [], ◌∷◌, ◌++◌, length, map, take, IfSome}
use Rattle.tc_model.specs.Grammars.{Grammar}
use Rattle.tc_model.specs.Names.{ExpandedName}
use Rattle.tc_model.specs.RawTrees.{Bound}
use Rattle.tc_model.specs.Trees.{none}
use Rattle.tc_model.specs.XmlTextNames.{QualifiedName}
use Rattle.tc_model.specs.XmlTextScopes.{ElementName}
use Rattle.tc_steps.specs.Open.{Open}
use Rattle.tc_steps.specs.Open as st
use Rattle.tc_stream.specs.Keeps.{AreTexts, StandIn}
use Rattle.tc_stream.specs.WholeTags.{IsWholeStart}
use Rattle.tc_stream.specs.declared.elements.Elements.{Elements}
use Rattle.tc_stream.specs.declared.whole_tags.WholeStart.{WholeStart}
use Rattle.tc_tags.specs.Bindings.{Binds}
use Rattle.tc_tags.specs.Forms.{FormRead}
use Rattle.tc_tags.specs.Written.{binding_in}
use Rattle.tc_tags.specs.XmlTextTags.{WrittenElement}
use Rattle.tc_tags.specs.declared.tags.Form.{Form}

-- an element without attributes
abbrev pub alone : QualifiedName → WrittenElement
alone n = record { name = n; attributes = [] }

-- a name without a prefix, and the start tag of it alone, with its form
abbrev pub local_name : List ℕ → QualifiedName
local_name local = record { prefix = []; local = local }

abbrev pub tag_of : List ℕ → List ℕ
tag_of local = 0x3C ∷ (local ++ 0x3E ∷ [])

abbrev pub form_of : List ℕ → Form
form_of local = record { name = record { prefix = record { start = 1; length = 0 }; local = record { start = 1; length = length local } }; is_empty = false }

abbrev pub IsNameAlone : List ℕ → Type 0
IsNameAlone local = FormRead (tag_of local) (form_of local) (alone (local_name local))

-- this is its tag
pub record IsTagOf (local tag : List ℕ) : Type 0 where
  pub tag_is : tag ≡ tag_of local
  pub read : IsNameAlone local

-- an element of this local name is gone into
pub record GoesNamed (local : List ℕ) (old new : Elements) : Type 0 where
  pub expanded : ExpandedName
  pub named : (scope : List Bound) → AreTexts old.rooms.names.bytes.items old.rooms.scopes.declared.items → Binds (map (binding_in old.rooms.names.bytes.items) old.rooms.scopes.declared.items) scope
      → ElementName scope (local_name local) expanded
  pub steps : (x : Grammar) (path : List Open) (run : List ℕ) → StandIn x old.validity path run → StandIn x new.validity (record { name = expanded; kids = none } ∷ st.with_text run path) []

-- a tag that stands whole at the front, and its name if it is a local name alone
pub record IsStartOf (text : List ℕ) (s : WholeStart) : Type 0 where
  pub tag : IsWholeStart text s.count
  pub named : IfSome s.named (λ name. IsTagOf name.now (take s.count text))
