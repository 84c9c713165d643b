-- Trees one at a time, from the front and from the back, and normal trees place by place.
use Rattle.std.specs.Prelude.{◌≡◌, Bool, true, false, ◌||◌}
use Rattle.tc_model.specs.Trees.{Trees, none, text, element, beside, is_white_space_only}
use Rattle.tc_model.specs.Chains.{Tree, an_element, a_text}

-- one tree, and nothing beside it
abbrev pub alone : Tree → Trees
alone (an_element n kids) = element n kids none
alone (a_text s) = text s none

-- trees with one more behind them
abbrev pub followed_by : Trees → Tree → Trees
followed_by h t = beside h (alone t)

-- trees from the back: none, or some with one more behind them
pub data FromBack : Trees → Type 0 where
  is_none : FromBack none
  is_followed : {l : Trees} (h : Trees) (t : Tree) → l ≡ followed_by h t → FromBack h → FromBack l

abbrev pub is_text : Tree → Bool
is_text (an_element n kids) = false
is_text (a_text s) = true

-- the last of the trees is a text; of no tree it is as is told
abbrev pub ends_in_text_after : Bool → Trees → Bool
ends_in_text_after before none = before
ends_in_text_after before (text s rest) = ends_in_text_after true rest
ends_in_text_after before (element n kids rest) = ends_in_text_after false rest

abbrev pub ends_in_text : Trees → Bool
ends_in_text h = ends_in_text_after false h

-- a text stands in the trees, at some depth
abbrev pub bears_text : Trees → Bool
bears_text none = false
bears_text (text s rest) = true
bears_text (element n kids rest) = bears_text kids || bears_text rest

-- behind a text or not: no two texts stand side by side, and none is white space alone, at every level
abbrev pub IsApartAfter : Bool → Trees → Type 0
IsApartAfter before none = Unit {0}
IsApartAfter before (text s rest) = (before ≡ false) × (is_white_space_only s ≡ false) × IsApartAfter true rest
IsApartAfter before (element n kids rest) = IsApartAfter false kids × IsApartAfter false rest

-- trees are so exactly where they are in normal form
abbrev pub IsApart : Trees → Type 0
IsApart h = IsApartAfter false h
