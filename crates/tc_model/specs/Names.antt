-- Names of elements (Namespaces in XML 1.0) and the characters of texts (XML 1.0, Fifth Edition). All texts are in UTF-8.
use Rattle.std.specs.Prelude.{◌≡◌, ◌≢◌, ℕ, List, [], ◌∷◌, Bool, ◌&&◌, not, ◌==◌, IsTrue, bytes_eq, encode_utf8_all, codes}
use Rattle.std.specs.List.{list_all}
use Rattle.tc_base.specs.Characters.{is_char, is_name_start, is_name_char}

-- an expanded name: a namespace name, empty where there is none, and a local name (Namespaces, 2.1)
pub record ExpandedName : Type 0 where
  pub uri : List ℕ
  pub local : List ℕ

-- two names are equal where both parts are (Namespaces, 2.1)
abbrev pub same_name : ExpandedName → ExpandedName → Bool
same_name n m = bytes_eq n.uri m.uri && bytes_eq n.local m.local

-- characters of XML, perhaps none (XML, 2.2)
abbrev pub IsChars : List ℕ → Type 0
IsChars bytes = (cs : List ℕ) × (encode_utf8_all cs ≡ bytes) × IsTrue (list_all is_char cs)

-- what may stand at the start of an NCName, and after that (Namespaces, 3, [4])
abbrev pub is_ncname_start : ℕ → Bool
is_ncname_start c = is_name_start c && not (c == 0x3A)

abbrev pub is_ncname_char : ℕ → Bool
is_ncname_char c = is_name_char c && not (c == 0x3A)

-- a name without a colon (Namespaces, 3, [4])
abbrev pub IsNcName : List ℕ → Type 0
IsNcName bytes = (c : ℕ) × (cs : List ℕ) × (encode_utf8_all (c ∷ cs) ≡ bytes) × IsTrue (is_ncname_start c) × IsTrue (list_all is_ncname_char cs)

-- the namespace of namespace declarations, to which nothing may be bound (Namespaces, 3)
abbrev pub xmlns_uri : List ℕ
xmlns_uri = codes "http://www.w3.org/2000/xmlns/"

-- the namespace of the prefix xml, which needs no declaration (Namespaces, 3)
abbrev pub xml_uri : List ℕ
xml_uri = codes "http://www.w3.org/XML/1998/namespace"

-- what may stand for a namespace, the empty text for none
abbrev pub IsNamespaceName : List ℕ → Type 0
IsNamespaceName uri = IsChars uri × (uri ≢ xmlns_uri)

-- a lawful expanded name
abbrev pub IsName : ExpandedName → Type 0
IsName n = IsNamespaceName n.uri × IsNcName n.local

-- the characters of a text: at least one
abbrev pub IsText : List ℕ → Type 0
IsText bytes = (bytes ≢ []) × IsChars bytes
