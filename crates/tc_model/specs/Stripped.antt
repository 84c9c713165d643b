-- The document of a raw tree.
use Rattle.tc_model.specs.RawTrees as r
use Rattle.tc_model.specs.Trees.{Trees, none, text, element, normal_form}

-- the trees without attributes, prefixes in scope and places
abbrev pub bare : r.RawTrees → Trees
bare r.none = none
bare (r.text s p rest) = text s (bare rest)
bare (r.element n attributes scope p kids rest) = element n (bare kids) (bare rest)

-- and in normal form, which drops texts of white space alone
abbrev pub stripped : r.RawTrees → Trees
stripped h = normal_form (bare h)
