-- Trees with what is asked of each node again and again: the symbol of an element, and which predicates hold on a node. Some elements have a number,
-- by which their children are known.
use Rattle.std.specs.Prelude.{◌≡◌, ℕ, List, Option, Some, IfSome, slice_get}
use Rattle.tc_model.specs.Names.{ExpandedName}
use Rattle.tc_model.specs.Trees as t
use Rattle.tc_model.specs.Trees.{Trees}
use Rattle.tc_model.specs.Chains.{an_element, a_text}
use Rattle.tc_model.specs.Sheets.{Test}
use Rattle.tc_model.specs.Symbols.{Mention, symbol_of}
use Rattle.tc_model.specs.Letters.{letter_of}

pub data Lettered : Type 0 where
  none : Lettered
  -- the text and its marks
  text : List ℕ → ℕ → Lettered → Lettered
  -- the name, the symbol, the marks, the number, the children
  element : ExpandedName → ℕ → ℕ → Option ℕ → Lettered → Lettered → Lettered

-- the trees alone
abbrev pub bare : Lettered → Trees
bare none = t.none
bare (text s marks rest) = t.text s (bare rest)
bare (element n sym marks number kids rest) = t.element n (bare kids) (bare rest)

module _ (symbols : List Mention) (predicates : List Test) (numbered : List Trees) where
  -- what is kept of an element of these children is right
  pub record IsElement (n : ExpandedName) (sym marks : ℕ) (number : Option ℕ) (kids : Trees) : Type 0 where
    pub symbol : sym ≡ symbol_of symbols n
    pub marks_are : marks ≡ (letter_of symbols predicates (an_element n kids)).marks
    pub number_is : IfSome number (λ k. slice_get numbered k ≡ Some kids)

  -- all of it is right
  abbrev pub IsLettered : Lettered → Type 0
  IsLettered none = Unit {0}
  IsLettered (text s marks rest) = (marks ≡ (letter_of symbols predicates (a_text s)).marks) × IsLettered rest
  IsLettered (element n sym marks number kids rest) = IsElement n sym marks number (bare kids) × (IsLettered kids × IsLettered rest)
