-- The pieces of printed trees: characters by where they stand, and tags.
use Rattle.std.specs.Prelude.{ℕ, List, ◌++◌, codes}
use Rattle.tc_model.specs.Names.{ExpandedName}
use Rattle.tc_model.specs.Printed.{escaped_in_text, escaped_in_value, tag_name, declaration}
use Rattle.tc_print.specs.declared.escapes.Within.{Within}
use Rattle.tc_print.specs.declared.escapes.Within.TheVariants.{Text, Value}

-- a character where it stands
abbrev pub escaped : Within → ℕ → List ℕ
escaped Text c = escaped_in_text c
escaped Value c = escaped_in_value c

-- a start tag within an element of this default namespace, but for its end
abbrev pub begun_tag : List ℕ → ExpandedName → List ℕ
begun_tag default n = codes "<" ++ tag_name n ++ declaration default n

abbrev pub end_tag : ExpandedName → List ℕ
end_tag n = codes "</" ++ tag_name n ++ codes ">"
