-- What is looked at in the raw tree of a stylesheet (XSLT 1.0, 2 to 9 and 11.3): not what `xsl:output`, `xsl:strip-space` and `xsl:attribute` have and
-- hold, nor what elements of other namespaces at the top do; nor what elements have and hold that aren't supported, or may not stand where they
-- stand; and of a root that is no stylesheet's, its tag alone.
use Rattle.std.specs.Prelude.{◌≡◌, ◌≢◌, ◌&&◌, ℕ, List, Option, None, Some, Contains, bytes_eq, codes, if◌then◌else◌}
use Rattle.tc_base.specs.declared.reasons.Why.{Why}
use Rattle.tc_base.specs.declared.reasons.Why.TheVariants.{SimplifiedStylesheet}
use Rattle.tc_model.specs.Names.{ExpandedName}
use Rattle.tc_model.specs.RawTrees.{Attribute, Bound, RawTrees, text, element}
use Rattle.tc_model.specs.SheetTextPhrases.{xsl_uri, IsXsl, Tag, tag, Instruction, i_apply, i_call, i_value, i_each, i_if, i_choose, i_text, i_copy, i_element, i_attribute, i_copy_of, instruction_of}
use Rattle.tc_path.specs.Faults.{Deep}
use Rattle.tc_sheet.specs.Constructs.{IsRoot, Form, MustHave, IsRefusedAttribute, IsRefusedElement}

-- where trees stand: at the top, in a body, in an `xsl:choose`, or where no element may stand
pub data Where : Type 0 where
  at_top : Where
  in_body : Where
  in_choose : Where
  in_blank : Where

-- where what an instruction holds stands, unless it isn't looked at
abbrev pub held : Instruction → Option Where
held i_apply = Some in_blank
held i_call = Some in_blank
held i_value = Some in_blank
held i_each = Some in_body
held i_if = Some in_body
held i_choose = Some in_choose
held i_text = Some in_blank
held i_copy = Some in_body
held i_element = Some in_body
held i_attribute = None
held i_copy_of = Some in_blank

-- the attributes of an element of this name that stands there are looked at, and what it holds, which stands there
pub data IsOpened : Where → ExpandedName → Where → Type 0 where
  a_template : {n : ExpandedName} → IsXsl (codes "template") n → IsOpened at_top n in_body
  a_literal : {n : ExpandedName} → n.uri ≢ xsl_uri → IsOpened in_body n in_body
  an_instruction : {n : ExpandedName} {i : Instruction} {w : Where} → instruction_of n ≡ Some i → held i ≡ Some w → IsOpened in_body n w
  a_when : {n : ExpandedName} → IsXsl (codes "when") n → IsOpened in_choose n in_body
  an_otherwise : {n : ExpandedName} → IsXsl (codes "otherwise") n → IsOpened in_choose n in_body

-- where what follows an element of this name stands: behind an `xsl:otherwise` no element may stand (9.2)
abbrev pub behind : ExpandedName → Where → Where
behind n at_top = at_top
behind n in_body = in_body
behind n in_choose = if bytes_eq n.uri xsl_uri && bytes_eq n.local (codes "otherwise") then in_blank else in_choose
behind n in_blank = in_blank

-- what is looked at: a text, with its place; the root, another element, or an attribute, with the tag
pub data Item : Type 0 where
  of_text : ℕ → Item
  of_root : Tag → Item
  of_element : Tag → Item
  of_attribute : Tag → Attribute → Item

abbrev pub place_of : Item → ℕ
place_of (of_text p) = p
place_of (of_root t) = t.place
place_of (of_element t) = t.place
place_of (of_attribute t a) = a.place

-- this is looked at among trees that stand there
pub data IsIn : Where → RawTrees → Item → Type 0 where
  at_text : {w : Where} {s : List ℕ} {p : ℕ} {rest : RawTrees} → IsIn w (text s p rest) (of_text p)
  beside_text : {w : Where} {s : List ℕ} {p : ℕ} {rest : RawTrees} {x : Item} → IsIn w rest x → IsIn w (text s p rest) x
  at_element : {w : Where} {n : ExpandedName} {attributes : List Attribute} {scope : List Bound} {p : ℕ} {kids rest : RawTrees}
      → IsIn w (element n attributes scope p kids rest) (of_element (tag n attributes scope p))
  at_attribute : {w v : Where} {n : ExpandedName} {attributes : List Attribute} {scope : List Bound} {p : ℕ} {kids rest : RawTrees} {a : Attribute}
      → IsOpened w n v → Contains attributes a → IsIn w (element n attributes scope p kids rest) (of_attribute (tag n attributes scope p) a)
  inside : {w v : Where} {n : ExpandedName} {attributes : List Attribute} {scope : List Bound} {p : ℕ} {kids rest : RawTrees} {x : Item}
      → IsOpened w n v → IsIn v kids x → IsIn w (element n attributes scope p kids rest) x
  beside_element : {w : Where} {n : ExpandedName} {attributes : List Attribute} {scope : List Bound} {p : ℕ} {kids rest : RawTrees} {x : Item}
      → IsIn (behind n w) rest x → IsIn w (element n attributes scope p kids rest) x

-- this is looked at in a whole tree
pub data IsLookedAt : RawTrees → Item → Type 0 where
  the_root : {n : ExpandedName} {attributes : List Attribute} {scope : List Bound} {p : ℕ} {kids rest : RawTrees}
      → IsLookedAt (element n attributes scope p kids rest) (of_root (tag n attributes scope p))
  has_root : {n : ExpandedName} {attributes : List Attribute} {scope : List Bound} {p : ℕ} {kids rest : RawTrees} {a : Attribute}
      → IsRoot n → Contains attributes a → IsLookedAt (element n attributes scope p kids rest) (of_attribute (tag n attributes scope p) a)
  within : {n : ExpandedName} {attributes : List Attribute} {scope : List Bound} {p : ℕ} {kids rest : RawTrees} {x : Item}
      → IsRoot n → IsIn at_top kids x → IsLookedAt (element n attributes scope p kids rest) x

-- a literal element with a version is a stylesheet by itself (2.3)
pub record IsSimplified (t : Tag) : Type 0 where
  pub literal : (t.name).uri ≢ xsl_uri
  pub version : Attribute
  pub has : Contains t.attributes version
  pub is_version : IsXsl (codes "version") version.name

-- this is refused by this reason
abbrev pub IsRefused : Why → Item → Type 0
IsRefused why (of_text p) = ⊥
IsRefused why (of_root t) = IsSimplified t × (why ≡ SimplifiedStylesheet)
IsRefused why (of_element t) = IsRefusedElement t.name why
IsRefused why (of_attribute t a) = IsRefusedAttribute t.name t.scope a why

-- this is a select, a pattern or a test that nests too deep
abbrev pub IsDeep : Item → Type 0
IsDeep (of_text p) = ⊥
IsDeep (of_root t) = ⊥
IsDeep (of_element t) = ⊥
IsDeep (of_attribute t a) = (f : Form) × MustHave t.name a.name f × Deep a.value

-- this is refused by no reason of its own
abbrev pub IsUnrefused : Item → Type 0
IsUnrefused x = (why : Why) → IsRefused why x → ⊥

-- one of these, of which this holds, stands at this place
pub record IsAt (Has Holds : Item → Type 0) (q : ℕ) : Type 0 where
  pub item : Item
  pub has : Has item
  pub holds : Holds item
  pub stands : place_of item ≡ q
