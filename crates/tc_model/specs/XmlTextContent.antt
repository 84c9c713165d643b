-- Elements and their content in an XML text (XML 1.0, Fifth Edition, 3 and 3.1).
-- The place of a text is that of the first byte of its run, be it of an empty CDATA section: in
-- `<a><![CDATA[]]><!--c-->x</a>` the text stands at 3.
use Rattle.std.specs.Prelude.{◌≡◌, ◌⊎◌, ℕ, suc, Bool, List, [], ◌∷◌, ◌++◌, codes}
use Rattle.tc_model.specs.Names.{ExpandedName}
use Rattle.tc_model.specs.RawTrees.{Attribute, Bound, RawTrees, none, text, element}
use Rattle.tc_model.specs.XmlTextBytes.{place_of, BeginsWithWhite, after_white, EqualsAt, line_ends}
use Rattle.tc_model.specs.XmlTextNames.{QualifiedName, QNameAt}
use Rattle.tc_model.specs.XmlTextReferences.{ReferenceAt, CharacterDataAt, CdataAt, QuotedAt}
use Rattle.tc_model.specs.XmlTextMisc.{CommentAt, InstructionAt}
use Rattle.tc_model.specs.XmlTextScopes.{WrittenAttribute, TagMeans}

-- what one item of a content adds to the trees after it
pub data Piece : Type 0 where
  nothing : Piece
  -- characters, perhaps none, and their place
  characters : List ℕ → ℕ → Piece
  -- an element: its name, attributes, prefixes in scope, place and children
  whole : ExpandedName → List Attribute → List Bound → ℕ → RawTrees → Piece

-- characters before trees: they join a text that stands there, which takes over their place; no characters make no text
abbrev pub characters_before : List ℕ → ℕ → RawTrees → RawTrees
characters_before s p (text t q rest) = text (s ++ t) p rest
characters_before [] p rest = rest
characters_before s p rest = text s p rest

abbrev pub piece_before : Piece → RawTrees → RawTrees
piece_before nothing rest = rest
piece_before (characters s p) rest = characters_before s p rest
piece_before (whole n attributes scope p kids) rest = element n attributes scope p kids rest

-- a tag ends here
abbrev pub EndsTag : List ℕ → Type 0
EndsTag bs = ((r : List ℕ) × (bs ≡ 0x3E ∷ r)) ⊎ ((r : List ℕ) × (bs ≡ 0x2F ∷ r))

-- the attributes of a tag, each after white space, up to where the tag ends (XML, 3.1, [40], [41], [44])
pub data AttributesAt (others : Bool) (total : ℕ) : List ℕ → List WrittenAttribute → List ℕ → Type 0 where
  no_more : {bs : List ℕ} → EndsTag (after_white bs) → AttributesAt others total bs [] (after_white bs)
  attribute : {bs past_name start value rest after : List ℕ} {name : QualifiedName} {attributes : List WrittenAttribute}
      → BeginsWithWhite bs → QNameAt (after_white bs) name past_name → EqualsAt past_name start → QuotedAt others start value rest
      → AttributesAt others total rest attributes after
      → AttributesAt others total bs (record { name = name; value = value; place = place_of total (after_white bs) } ∷ attributes) after

-- a start tag or an empty-element tag up to where it ends, where `outer` is in scope
pub record TagAt (others : Bool) (total : ℕ) (outer : List Bound) (bs : List ℕ) (written : QualifiedName)
    (scope : List Bound) (name : ExpandedName) (expanded : List Attribute) (after : List ℕ) : Type 0 where
  pub rest : List ℕ
  pub past_name : List ℕ
  pub attributes : List WrittenAttribute
  pub opens : bs ≡ 0x3C ∷ rest
  pub names : QNameAt rest written past_name
  pub lists : AttributesAt others total past_name attributes after
  pub means : TagMeans outer written attributes scope name expanded

-- An item of content, an element, or content at the front of these bytes, and what follows it, where `outer` is in scope and
-- elements stand at most so deep. Content goes up to an end tag.
mutual
  -- content: any number of items (XML, 3.1, [43])
  pub data ContentAt (others : Bool) (total : ℕ) : List Bound → ℕ → List ℕ → RawTrees → List ℕ → Type 0 where
    at_end_tag : {outer : List Bound} {deepest : ℕ} {r : List ℕ} → ContentAt others total outer deepest (0x3C ∷ 0x2F ∷ r) none (0x3C ∷ 0x2F ∷ r)
    item : {outer : List Bound} {deepest : ℕ} {bs rest after : List ℕ} {piece : Piece} {trees : RawTrees}
        → ItemAt others total outer deepest bs piece rest → ContentAt others total outer deepest rest trees after
        → ContentAt others total outer deepest bs (piece_before piece trees) after

  pub data ItemAt (others : Bool) (total : ℕ) : List Bound → ℕ → List ℕ → Piece → List ℕ → Type 0 where
    character_data : {outer : List Bound} {deepest : ℕ} {bs run after : List ℕ} → CharacterDataAt bs run after
        → ItemAt others total outer deepest bs (characters (line_ends run) (place_of total bs)) after
    reference : {outer : List Bound} {deepest : ℕ} {bs s after : List ℕ} → ReferenceAt others bs s after
        → ItemAt others total outer deepest bs (characters s (place_of total bs)) after
    cdata : {outer : List Bound} {deepest : ℕ} {bs inside after : List ℕ} → CdataAt bs inside after
        → ItemAt others total outer deepest bs (characters (line_ends inside) (place_of total bs)) after
    comment : {outer : List Bound} {deepest : ℕ} {bs after : List ℕ} → CommentAt bs after → ItemAt others total outer deepest bs nothing after
    instruction : {outer : List Bound} {deepest : ℕ} {bs after : List ℕ} → InstructionAt bs after → ItemAt others total outer deepest bs nothing after
    child : {outer : List Bound} {deepest : ℕ} {bs after : List ℕ} {piece : Piece} → ElementAt others total outer deepest bs piece after
        → ItemAt others total outer deepest bs piece after

  -- an empty-element tag, or a start tag, content and an end tag with the same name (XML, 3, [39]; 3.1, [40], [42], [44])
  pub data ElementAt (others : Bool) (total : ℕ) : List Bound → ℕ → List ℕ → Piece → List ℕ → Type 0 where
    empty_tag : {outer scope : List Bound} {deepest : ℕ} {bs after : List ℕ} {written : QualifiedName} {name : ExpandedName} {expanded : List Attribute}
        → TagAt others total outer bs written scope name expanded (codes "/>" ++ after)
        → ElementAt others total outer (suc deepest) bs (whole name expanded scope (place_of total bs) none) after
    with_content : {outer scope : List Bound} {deepest : ℕ} {bs inside end past_name after : List ℕ} {written : QualifiedName} {name : ExpandedName}
        {expanded : List Attribute} {kids : RawTrees}
        → TagAt others total outer bs written scope name expanded (0x3E ∷ inside)
        → ContentAt others total scope deepest inside kids (0x3C ∷ 0x2F ∷ end)
        → QNameAt end written past_name → after_white past_name ≡ 0x3E ∷ after
        → ElementAt others total outer (suc deepest) bs (whole name expanded scope (place_of total bs) kids) after
