-- Two measures of an XML text that is read in pieces: how long its tags are, and how many bytes the names of its open elements have. What one piece
-- after another can show stands here: where a measure passes its limit, and that nothing passes. The limits are parameters.
use Rattle.std.specs.Prelude.{◌≡◌, ◌<◌, ◌≤◌, ◌⊎◌, ℕ, suc, ◌+◌, false, true, List, [], ◌∷◌, ◌++◌, None, length, take, codes, encode_utf8}
use Rattle.tc_base.specs.declared.limits.TheConstants.{LONGEST_TAG, MOST_NAMES}
use Rattle.tc_model.specs.Names.{is_ncname_start}
use Rattle.tc_model.specs.RawTrees.{RawTrees, Bound}
use Rattle.tc_model.specs.XmlTextBytes.{FrontOf, Lacks, place_of}
use Rattle.tc_model.specs.XmlText.{XmlText}
use Rattle.tc_stream.specs.Scans.{ended, tag_scan}
use Rattle.tc_tags.specs.XmlTextTags.{WrittenElement, TagFormAt, WholeTagAt, ComesTo, tag_length, open_names}

-- A good text: one of the form of XML, with its raw tree, in which no tag and no names of open elements pass their limits. An element whose tag is
-- just read is open, an empty one too.
pub record IsGoodWithin (longest most : ℕ) (bytes : List ℕ) (tree : RawTrees) : Type 0 where
  pub reads : XmlText bytes tree
  pub tags : (elements : List WrittenElement) (scope : List Bound) (deepest : ℕ) (at after : List ℕ)
      → ComesTo bytes elements scope deepest at → WholeTagAt (length bytes) at after → tag_length at after ≤ longest
  pub names : (element : WrittenElement) (elements : List WrittenElement) (scope : List Bound) (deepest : ℕ) (at after : List ℕ)
      → ComesTo bytes elements scope deepest at → TagFormAt false (length bytes) at element after → open_names (element ∷ elements) ≤ most

pub data Measure : Type 0 where
  tag : Measure
  names : Measure

-- The tag that begins here has too many bytes, where these elements are open and so many may still stand within one another: its end doesn't stand among the
-- first of them, whatever else these are. A start tag or an empty-element tag begins with a `<` and the first character of a name (XML, 3.1, [40], [44]; Namespaces,
-- 3, [4]), and ends at the first `>` out of quotes. An end tag begins with `</` in an element, and ends at the first `>`, as no quotes stand in one (XML, 3.1, [42]).
pub data IsLongTag (longest : ℕ) : List WrittenElement → ℕ → List ℕ → Type 0 where
  long_start : {elements : List WrittenElement} {deepest : ℕ} {at : List ℕ} (c : ℕ) (rest : List ℕ) → 0 < deepest → at ≡ 0x3C ∷ (encode_utf8 c ++ rest) → is_ncname_start c ≡ true
      → longest < length at → ((after : List ℕ) → tag_scan None (take longest at) ≡ ended after → ⊥) → IsLongTag longest elements deepest at
  long_end : {element : WrittenElement} {elements : List WrittenElement} {deepest : ℕ} {at : List ℕ} (rest : List ℕ) → at ≡ codes "</" ++ rest
      → longest < length at → Lacks (0x3E ∷ []) (take longest at) → IsLongTag longest (element ∷ elements) deepest at

-- A measure passes its limit in these characters, and where: a tag at the byte that is one too many; names behind the tag with which they pass, whatever
-- these names mean. Where elements stand too deep no tag is measured that would stand deeper.
pub data PassesWithin (longest most : ℕ) (front : List ℕ) : Measure → ℕ → Type 0 where
  long_tag : {elements : List WrittenElement} {outer : List Bound} {deepest : ℕ} {at : List ℕ}
      → ComesTo front elements outer deepest at → IsLongTag longest elements deepest at
      → PassesWithin longest most front tag (place_of (length front) at + longest)
  many_names : {element : WrittenElement} {elements : List WrittenElement} {outer : List Bound} {deepest : ℕ} {at end after : List ℕ}
      → ComesTo front elements outer (suc deepest) at → TagFormAt false (length front) at element end
      → (end ≡ 0x3E ∷ after) ⊎ (end ≡ codes "/>" ++ after) → most < open_names (element ∷ elements)
      → PassesWithin longest most front names (place_of (length front) after)

-- this measure passes first among the characters at the front of the bytes, and at this place
pub record PassesFirstWithin (longest most : ℕ) (bytes : List ℕ) (measure : Measure) (place : ℕ) : Type 0 where
  pub front : List ℕ
  pub is_front : FrontOf bytes front
  pub passes : PassesWithin longest most front measure place
  pub first : (other : Measure) (elsewhere : ℕ) → PassesWithin longest most front other elsewhere → place ≤ elsewhere

-- The limits of a document that comes in pieces

-- the most bytes of a tag
abbrev pub longest_tag : ℕ
longest_tag = LONGEST_TAG

-- the most bytes of the names of elements that are open
abbrev pub most_names : ℕ
most_names = MOST_NAMES

abbrev pub IsGood : List ℕ → RawTrees → Type 0
IsGood bytes tree = IsGoodWithin longest_tag most_names bytes tree

abbrev pub PassesAt : List ℕ → Measure → ℕ → Type 0
PassesAt front measure place = PassesWithin longest_tag most_names front measure place

abbrev pub PassesFirst : List ℕ → Measure → ℕ → Type 0
PassesFirst bytes measure place = PassesFirstWithin longest_tag most_names bytes measure place

-- no measure passes there
abbrev pub IsWithinMeasures : List ℕ → Type 0
IsWithinMeasures bytes = (front : List ℕ) (measure : Measure) (place : ℕ) → FrontOf bytes front → PassesAt front measure place → ⊥

-- in a good text no measure passes
abbrev pub GoodTextsPassNothing : Type 0
GoodTextsPassNothing = (bytes : List ℕ) (h : RawTrees) → IsGood bytes h → IsWithinMeasures bytes

-- and a text in which none passes is good, if it has a raw tree
abbrev pub TextsThatPassNothingAreGood : Type 0
TextsThatPassNothingAreGood = (bytes : List ℕ) (h : RawTrees) → XmlText bytes h → IsWithinMeasures bytes → IsGood bytes h
