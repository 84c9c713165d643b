-- Trees of elements and texts, and their normal form.
-- Empty texts aren't lawful, yet they are treated: the normal form drops them, and an element whose one child
-- is an empty text is printed with two tags. The normal form goes in two steps, as the standards tell it.
-- That in it no two texts stand side by side and none is white space alone (`IsApart` in `TreesApart`) is the
-- same, as proofs show.
use Rattle.std.specs.Prelude.{◌≡◌, ℕ, ◌+◌, List, ◌++◌, Bool, if◌then◌else◌}
use Rattle.std.specs.List.{list_all}
use Rattle.tc_base.specs.Characters.{is_white}
use Rattle.tc_model.specs.Names.{ExpandedName, IsName, IsText}

-- a list of trees: nothing, or a text or an element and what stands beside it
pub data Trees : Type 0 where
  none : Trees
  text : List ℕ → Trees → Trees
  element : ExpandedName → Trees → Trees → Trees

-- the trees of the first, and then those of the second
abbrev pub beside : Trees → Trees → Trees
beside none k = k
beside (text s rest) k = text s (beside rest k)
beside (element n kids rest) k = element n kids (beside rest k)

-- how many elements and texts
abbrev pub node_count : Trees → ℕ
node_count none = 0
node_count (text s rest) = node_count rest + 1
node_count (element n kids rest) = node_count kids + node_count rest + 1

-- white space alone, or nothing (XML, 2.3, [3]); a byte of another character is none of these
abbrev pub is_white_space_only : List ℕ → Bool
is_white_space_only bytes = list_all is_white bytes

-- a text before trees: it joins a text that stands there
abbrev pub joined_to : List ℕ → Trees → Trees
joined_to s none = text s none
joined_to s (text t rest) = text (s ++ t) rest
joined_to s (element n kids rest) = text s (element n kids rest)

-- adjacent texts joined, at every level
abbrev pub joined : Trees → Trees
joined none = none
joined (text s rest) = joined_to s (joined rest)
joined (element n kids rest) = element n (joined kids) (joined rest)

-- a text before trees, unless it is white space alone
abbrev pub kept : List ℕ → Trees → Trees
kept s rest = if is_white_space_only s then rest else text s rest

-- texts of white space alone dropped, at every level
abbrev pub dropped : Trees → Trees
dropped none = none
dropped (text s rest) = kept s (dropped rest)
dropped (element n kids rest) = element n (dropped kids) (dropped rest)

-- adjacent texts joined (XPath 1.0, 5.7), and then texts of white space alone dropped (XSLT 1.0, 3.4)
abbrev pub normal_form : Trees → Trees
normal_form h = dropped (joined h)

-- nothing is left to join or to drop
abbrev pub IsNormal : Trees → Type 0
IsNormal h = normal_form h ≡ h

-- names and texts are lawful
abbrev pub AreLawful : Trees → Type 0
AreLawful none = Unit {0}
AreLawful (text s rest) = IsText s × AreLawful rest
AreLawful (element n kids rest) = IsName n × AreLawful kids × AreLawful rest

abbrev pub IsOneElement : Trees → Type 0
IsOneElement (element n kids rest) = rest ≡ none
IsOneElement _ = ⊥

-- a document: one element, in normal form
abbrev pub IsDocument : Trees → Type 0
IsDocument d = IsOneElement d × AreLawful d × IsNormal d
