-- Printed trees read back as an XML text (XML 1.0, Fifth Edition; Namespaces in XML 1.0).
use Rattle.std.specs.Prelude.{◌≡◌, ◌≤◌, ◌+◌, ℕ, max, List}
use Rattle.tc_model.specs.Trees.{Trees, none, text, element, IsDocument}
use Rattle.tc_model.specs.RawTrees.{RawTrees}
use Rattle.tc_model.specs.XmlText.{XmlText, deepest_element}
use Rattle.tc_model.specs.Stripped.{stripped}

-- how deep elements stand within one another
abbrev pub nesting : Trees → ℕ
nesting none = 0
nesting (text s rest) = nesting rest
nesting (element n kids rest) = max (nesting kids + 1) (nesting rest)

-- a document that isn't nested deeper than a text may be
pub record IsShallowDocument (t : Trees) : Type 0 where
  pub document : IsDocument t
  pub shallow : nesting t ≤ deepest_element

-- the bytes are an XML text, and this is its document
pub record IsReadAs (bytes : List ℕ) (t : Trees) : Type 0 where
  pub raw : RawTrees
  pub spells : XmlText bytes raw
  pub document : stripped raw ≡ t
