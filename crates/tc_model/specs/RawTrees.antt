-- Trees as they are read: each with the place of its first byte, elements with attributes and the prefixes in scope.
use Rattle.std.specs.Prelude.{◌≡◌, ℕ, List}
use Rattle.tc_model.specs.Names.{ExpandedName}

-- an attribute that is no namespace declaration, with the place of its name
pub record Attribute : Type 0 where
  pub name : ExpandedName
  pub value : List ℕ
  pub place : ℕ

-- a prefix in scope and the namespace name to which it is bound; the empty prefix stands for the default namespace
pub record Bound : Type 0 where
  pub prefix : List ℕ
  pub uri : List ℕ

-- a list of trees: nothing, or a text or an element and what stands beside it
pub data RawTrees : Type 0 where
  none : RawTrees
  text : List ℕ → ℕ → RawTrees → RawTrees
  -- its name, attributes, prefixes in scope, place and children
  element : ExpandedName → List Attribute → List Bound → ℕ → RawTrees → RawTrees → RawTrees

-- the trees of the first, and then those of the second
abbrev pub beside : RawTrees → RawTrees → RawTrees
beside none k = k
beside (text s p rest) k = text s p (beside rest k)
beside (element n attributes scope p kids rest) k = element n attributes scope p kids (beside rest k)

abbrev pub IsOneElement : RawTrees → Type 0
IsOneElement none = ⊥
IsOneElement (text s p rest) = ⊥
IsOneElement (element n attributes scope p kids rest) = rest ≡ none
