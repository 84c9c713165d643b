-- Levels of trees that are in normal form already, and what the normal form changes at a tree.
use Rattle.std.specs.Prelude.{◌≡◌, ◌||◌, ℕ, zero, suc, List, Bool, true, false, Option, None, Some, option_map}
use Rattle.std.specs.Borrow.{Bor}
use Rattle.tc_model.specs.Trees.{Trees, none, text, element, is_white_space_only, normal_form}
use Rattle.tc_model.specs.Views.{trees, before}
use Rattle.tc_model.specs.declared.normal.Change.{Change}
use Rattle.tc_model.specs.declared.normal.Change.TheVariants.{Nothing, Text, Kids}
use Rattle.tc_model.specs.declared.tree.Node.{Node}

abbrev pub begins_with_text : Trees → Bool
begins_with_text none = false
begins_with_text (text s rest) = true
begins_with_text (element n kids rest) = false

-- behind a text or not: no text stands beside another or is white space alone, and all children are in normal form
abbrev pub IsLevelNormal : Bool → Trees → Type 0
IsLevelNormal behind none = Unit {0}
IsLevelNormal behind (text s rest) = (behind ≡ false) × (is_white_space_only s ≡ false) × IsLevelNormal true rest
IsLevelNormal behind (element n kids rest) = (normal_form kids ≡ kids) × IsLevelNormal false rest

-- the children of so many elements and texts are in normal form, and these, if they are known, are the normal form of those of the element after
-- them
abbrev pub KidsStay : ℕ → Option Trees → Trees → Type 0
KidsStay zero None h = Unit {0}
KidsStay zero (Some k) none = ⊥
KidsStay zero (Some k) (text s rest) = ⊥
KidsStay zero (Some k) (element n kids rest) = k ≡ normal_form kids
KidsStay (suc p) o none = ⊥
KidsStay (suc p) o (text s rest) = KidsStay p o rest
KidsStay (suc p) o (element n kids rest) = (normal_form kids ≡ kids) × KidsStay p o rest

abbrev pub known_kids : Option (Bor (List Node)) → Option Trees
known_kids o = option_map (λ (k : Bor (List Node)). trees k.now) o

-- a tree that stands behind a text or not leaves a level in normal form: if the trees after it are so behind it, they are so with it, and the children
-- of one tree more are known to be in normal form (what a text behind a text comes to is told where that one stands)
abbrev pub IsUnchanged : Bool → Node → Type 0
IsUnchanged behind x =
    (rest : Trees) → (IsLevelNormal (begins_with_text (before x none)) rest → IsLevelNormal behind (before x rest)) × ((p : ℕ) (o : Option Trees) → KidsStay p o rest → KidsStay (suc p) o (before x rest))

-- the first tree is a text that stands behind another, or is white space alone
abbrev pub IsTextChanged : Bool → Trees → Type 0
IsTextChanged behind none = ⊥
IsTextChanged behind (text s rest) = (behind || is_white_space_only s) ≡ true
IsTextChanged behind (element n kids rest) = ⊥

-- what the normal form changes at a tree, perhaps, is told: nothing; a text; or the children of an element, of which these are the normal form, be they that already
-- or not
abbrev pub IsChange : Bool → Node → Change → Type 0
IsChange behind x Nothing = IsUnchanged behind x
IsChange behind x Text = IsTextChanged behind (before x none)
IsChange behind x (Kids k) = (rest : Trees) → KidsStay 0 (Some (trees k.now)) (before x rest)

-- what is changed at an element, by its new children, if there are new ones
abbrev pub kids_change : Option (Bor (List Node)) → Change
kids_change None = Nothing
kids_change (Some k) = Kids k
