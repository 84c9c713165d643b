-- Tags that stand whole at the front of a text.
use Rattle.std.specs.Prelude.{◌≡◌, ◌<◌, ◌≤◌, ◌+◌, ℕ, List, [], ◌∷◌, ◌++◌, length, take, codes}
use Rattle.tc_base.specs.declared.limits.TheConstants.{LONGEST_TAG}
use Rattle.tc_model.specs.RawTrees.{Bound}
use Rattle.tc_model.specs.XmlTextNames.{QNameAt}
use Rattle.tc_stream.specs.Goes.{Level}
use Rattle.tc_stream.specs.Keeps.{Keeps}
use Rattle.tc_stream.specs.TagStands.{IsStartTag}
use Rattle.tc_stream.specs.declared.elements.Elements.{Elements}

-- the first so many bytes are a start tag or an empty-element tag up to its `>`, which isn't too long
pub record IsWholeStart (text : List ℕ) (count : ℕ) : Type 0 where
  pub some : 0 < count
  pub low : count ≤ length text
  pub short : count ≤ LONGEST_TAG
  pub tag : IsStartTag (take count text)

-- they are `</`, this name and a `>`
pub record IsPlainEnd (name text : List ℕ) (count : ℕ) : Type 0 where
  pub after : List ℕ
  pub parts : text ≡ codes "</" ++ (name ++ 0x3E ∷ after)
  pub long : count ≡ length name + 3
  pub short : count ≤ LONGEST_TAG

-- they are so with the name of the innermost element
pub record IsEndOf (e : Elements) (text : List ℕ) (count : ℕ) : Type 0 where
  pub name : List ℕ
  pub named : (l : Level) (ls : List Level) (scope : List Bound) → Keeps e (l ∷ ls) scope → QNameAt name l.written.name []
  pub plain : IsPlainEnd name text count
