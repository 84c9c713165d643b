-- How trees are printed as XML (XML 1.0, 2.4, 2.11, 3.1, 3.3.3; Namespaces in XML 1.0, 6.2).
use Rattle.std.specs.Prelude.{ℕ, List, [], ◌∷◌, ◌++◌, Bool, true, false, ◌||◌, if◌then◌else◌, ◌==◌, bytes_eq, codes, flat_map}
use Rattle.tc_model.specs.Names.{ExpandedName}
pub use Rattle.tc_model.specs.Names.{xml_uri}
use Rattle.tc_model.specs.Trees.{Trees, none, text, element}

-- a character of a text, in the bytes of UTF-8
abbrev pub escaped_in_text : ℕ → List ℕ
escaped_in_text c =
    if c == 38 then codes "&amp;" else
    if c == 60 then codes "&lt;" else
    if c == 62 then codes "&gt;" else
    if c == 10 then codes "&#10;" else
    if c == 13 then codes "&#13;" else (c ∷ [])

-- a character of a namespace name between double quotes
abbrev pub escaped_in_value : ℕ → List ℕ
escaped_in_value c =
    if c == 38 then codes "&amp;" else
    if c == 60 then codes "&lt;" else
    if c == 34 then codes "&quot;" else
    if c == 9 then codes "&#9;" else
    if c == 10 then codes "&#10;" else
    if c == 13 then codes "&#13;" else (c ∷ [])

-- the name in a tag: the local name, since the default namespace is declared where it is needed
abbrev pub tag_name : ExpandedName → List ℕ
tag_name n = if bytes_eq n.uri xml_uri then codes "xml:" ++ n.local else n.local

-- where the name's namespace is the default one that is in force, or that of the prefix xml
abbrev pub needs_no_declaration : List ℕ → ExpandedName → Bool
needs_no_declaration default n = bytes_eq n.uri default || bytes_eq n.uri xml_uri

-- the declaration in a start tag, with the space before it
abbrev pub declaration : List ℕ → ExpandedName → List ℕ
declaration default n = if needs_no_declaration default n then [] else codes " xmlns=\"" ++ flat_map escaped_in_value n.uri ++ codes "\""

-- the default namespace within the element
abbrev pub default_within : List ℕ → ExpandedName → List ℕ
default_within default n = if needs_no_declaration default n then default else n.uri

abbrev pub is_none : Trees → Bool
is_none none = true
is_none (text s rest) = false
is_none (element n kids rest) = false

-- trees within an element of this default namespace
abbrev pub printed_in : List ℕ → Trees → List ℕ
printed_in default none = []
printed_in default (text s rest) = flat_map escaped_in_text s ++ printed_in default rest
printed_in default (element n kids rest) =
    codes "<" ++ tag_name n ++ declaration default n
    ++ (if is_none kids then codes "/>" else codes ">" ++ printed_in (default_within default n) kids ++ codes "</" ++ tag_name n ++ codes ">")
    ++ printed_in default rest

abbrev pub printed : Trees → List ℕ
printed h = printed_in [] h
