-- What the functions that read a stylesheet find in its tree.
use Rattle.std.specs.Prelude.{◌≡◌, ℕ, List, [], ◌∷◌, map, Option, Some, Contains, codes}
use Rattle.tc_model.specs.RawTrees.{Attribute, Bound, RawTrees, element}
use Rattle.tc_model.specs.Views.{name, place, attribute, bound, raw_trees, raw_before}
use Rattle.tc_model.specs.Sheets.{Test}
use Rattle.tc_model.specs.SheetTextTrees.{WrittenBody, WrittenBranches, Template}
use Rattle.tc_model.specs.SheetTextPhrases.{Tag, tag, HasOnly, Optional, Required, value_of, IsBlank, AreCharacters, Instruction, IsInstruction, IsBody, AreBranches, IsTemplate, AreTemplates}
use Rattle.tc_model.specs.PathText.{AttributesText, TestText}
use Rattle.tc_model.specs.declared.tree.Raw.{Raw}
use Rattle.tc_model.specs.declared.tree.RawAttr.{RawAttr}
use Rattle.tc_model.specs.declared.tree.RawElem.{RawElem}
use Rattle.tc_sheet.specs.Constructs.{IsRefusedElement, IsUnrefusedElement, plain}
use Rattle.tc_sheet.specs.LookedAt.{Item, of_element, of_attribute, IsAt, IsUnrefused, IsRefused, IsDeep}
use Rattle.tc_sheet.specs.Changes.{Change, mended, flattened, both, ChangedAttributes, Changed}
use Rattle.tc_sheet.specs.Views.{tag_of}
use Rattle.tc_sheet.specs.declared.faults.SheetFault.{SheetFault}
use Rattle.tc_sheet.specs.declared.faults.SheetFault.TheVariants.{Malformed, Unsupported, TooDeep, Undefined, CallLoop, NoMemory}

-- A fault of one of these that are looked at, for which this is so whatever may be changed where it is the fault; or want of memory.
abbrev pub Refuses : SheetFault → (Item → Type 0) → (Change → Type 0) → Type 0
Refuses (Malformed p) Has P = IsAt Has IsUnrefused (place p) × P both
Refuses (Unsupported p why) Has P = IsAt Has (IsRefused why) (place p) × P flattened
Refuses (TooDeep p) Has P = IsAt Has IsDeep (place p) × P mended
Refuses (Undefined p) Has P = ⊥
Refuses (CallLoop p) Has P = ⊥
Refuses NoMemory Has P = Unit {0}

-- a fault of one of these that stands where none may
abbrev pub IsFaultOf : SheetFault → (Item → Type 0) → Type 0
IsFaultOf (Malformed p) Has = IsAt Has IsUnrefused (place p)
IsFaultOf (Unsupported p why) Has = IsAt Has (IsRefused why) (place p)
IsFaultOf (TooDeep p) Has = ⊥
IsFaultOf (Undefined p) Has = ⊥
IsFaultOf (CallLoop p) Has = ⊥
IsFaultOf NoMemory Has = ⊥

-- an element, or an attribute of it
pub data IsOfTag (t : Tag) : Item → Type 0 where
  itself : IsOfTag t (of_element t)
  attribute_of : {a : Attribute} → Contains t.attributes a → IsOfTag t (of_attribute t a)

-- an element without what it holds
abbrev pub alone : RawElem → Item → Type 0
alone e = IsOfTag (tag_of e)

abbrev pub attributes_of : RawElem → List Attribute
attributes_of e = map attribute e.attrs.now

abbrev pub scope_of : RawElem → List Bound
scope_of e = map bound e.scope.now

-- the tag of an element with other attributes
abbrev pub tag_with : RawElem → List Attribute → Tag
tag_with e olds = tag (name e.name) olds (scope_of e) (place e.place)

-- the fault of an element that must not stand where it stands: where it is malformed, no change takes it away
abbrev pub IsMisplaced : RawElem → SheetFault → Type 0
IsMisplaced e (Malformed p) = (place p ≡ place e.place) × IsUnrefusedElement (name e.name)
IsMisplaced e (Unsupported p why) = (place p ≡ place e.place) × IsRefusedElement (name e.name) why
IsMisplaced e (TooDeep p) = ⊥
IsMisplaced e (Undefined p) = ⊥
IsMisplaced e (CallLoop p) = ⊥
IsMisplaced e NoMemory = ⊥

-- the first attribute of this local name that has no namespace
pub record IsAttribute (e : RawElem) (local : List ℕ) (a : RawAttr) : Type 0 where
  pub has : Contains (attributes_of e) (attribute a)
  pub name : (attribute a).name ≡ plain local
  pub value : value_of local (attributes_of e) ≡ Some (attribute a).value

-- a `select` of attributes alone
pub record HasAttributesText (scope : List Bound) (olds : List Attribute) : Type 0 where
  pub written : List ℕ
  pub has : value_of (codes "select") olds ≡ Some written
  pub text : AttributesText scope written

-- no changed attributes are of this kind
abbrev pub HasNoAttributes : RawElem → (List Attribute → Type 0) → Change → Type 0
HasNoAttributes e P c = (olds : List Attribute) → ChangedAttributes c (attributes_of e) olds → P olds → ⊥

-- the attribute of this local name means nothing of this kind
abbrev pub HasNoRequired : {X : Type 0} → RawElem → List ℕ → (List ℕ → X → Type 0) → Change → Type 0
HasNoRequired {X} e local Means c = (olds : List Attribute) (x : X) → ChangedAttributes c (attributes_of e) olds → Required Means (value_of local olds) x → ⊥

abbrev pub HasNoOptional : {X : Type 0} → RawElem → List ℕ → (List ℕ → X → Type 0) → Change → Type 0
HasNoOptional {X} e local Means c = (olds : List Attribute) (x : Option X) → ChangedAttributes c (attributes_of e) olds → Optional Means (value_of local olds) x → ⊥

abbrev pub IsNotBlank : RawTrees → Change → Type 0
IsNotBlank h c = (k : RawTrees) → Changed c h k → IsBlank k → ⊥

abbrev pub HasNoCharacters : RawTrees → Change → Type 0
HasNoCharacters h c = (k : RawTrees) (s : List ℕ) → Changed c h k → AreCharacters k s → ⊥

-- an instruction, whatever follows
abbrev pub IsRead : Instruction → RawElem → (WrittenBody → WrittenBody) → Type 0
IsRead i e f = (b : WrittenBody) → IsInstruction i (tag_of e) (raw_trees e.kids.now) b (f b)

abbrev pub HasNoInstruction : Instruction → RawElem → Change → Type 0
HasNoInstruction i e c = (olds : List Attribute) (kids : RawTrees) (b d : WrittenBody) → ChangedAttributes c (attributes_of e) olds → Changed c (raw_trees e.kids.now) kids
    → IsInstruction i (tag_with e olds) kids b d → ⊥

-- a test and the body behind it
pub record IsTested (t : Tag) (kids : RawTrees) (when : Test) (b : WrittenBody) : Type 0 where
  pub only : HasOnly (codes "test" ∷ []) t.attributes
  pub test : Required (TestText t.scope) (value_of (codes "test") t.attributes) when
  pub body : IsBody kids b

abbrev pub HasNoTested : RawElem → Change → Type 0
HasNoTested e c = (olds : List Attribute) (kids : RawTrees) (when : Test) (b : WrittenBody) → ChangedAttributes c (attributes_of e) olds → Changed c (raw_trees e.kids.now) kids
    → IsTested (tag_with e olds) kids when b → ⊥

-- a test and no other attribute without a namespace
pub record HasTest (scope : List Bound) (olds : List Attribute) (when : Test) : Type 0 where
  pub only : HasOnly (codes "test" ∷ []) olds
  pub test : Required (TestText scope) (value_of (codes "test") olds) when

abbrev pub HasNoTest : RawElem → Change → Type 0
HasNoTest e c = (olds : List Attribute) (when : Test) → ChangedAttributes c (attributes_of e) olds → HasTest (scope_of e) olds when → ⊥

abbrev pub HasNoBody : RawTrees → Change → Type 0
HasNoBody h c = (k : RawTrees) (b : WrittenBody) → Changed c h k → IsBody k b → ⊥

-- a tree before the rest of a body
abbrev pub IsItem : Raw → (WrittenBody → WrittenBody) → Type 0
IsItem t f = (rest : RawTrees) (b : WrittenBody) → IsBody rest b → IsBody (raw_before t rest) (f b)

abbrev pub HasNoItem : Raw → Change → Type 0
HasNoItem t c = (rest : RawTrees) → HasNoBody (raw_before t rest) c

-- an element before the rest of a body
abbrev pub IsElementItem : RawElem → (WrittenBody → WrittenBody) → Type 0
IsElementItem e f = (rest : RawTrees) (b : WrittenBody) → IsBody rest b → IsBody (element (name e.name) (attributes_of e) (scope_of e) (place e.place) (raw_trees e.kids.now) rest) (f b)

abbrev pub HasNoElementItem : RawElem → Change → Type 0
HasNoElementItem e c = (rest : RawTrees) → HasNoBody (element (name e.name) (attributes_of e) (scope_of e) (place e.place) (raw_trees e.kids.now) rest) c

abbrev pub HasNoBranches : RawTrees → Change → Type 0
HasNoBranches h c = (k : RawTrees) (x : WrittenBranches) → Changed c h k → AreBranches k x → ⊥

abbrev pub HasNoTemplate : RawElem → Change → Type 0
HasNoTemplate e c = (olds : List Attribute) (kids : RawTrees) (t : Template) → ChangedAttributes c (attributes_of e) olds → Changed c (raw_trees e.kids.now) kids
    → IsTemplate (tag_with e olds) kids t → ⊥

abbrev pub HasNoTemplates : RawTrees → Change → Type 0
HasNoTemplates h c = (k : RawTrees) (ts : List Template) → Changed c h k → AreTemplates k ts → ⊥

-- a tree before the rest of what stands at the top
abbrev pub IsTopItem : Raw → (List Template → List Template) → Type 0
IsTopItem t f = (rest : RawTrees) (ts : List Template) → AreTemplates rest ts → AreTemplates (raw_before t rest) (f ts)

abbrev pub HasNoTopItem : Raw → Change → Type 0
HasNoTopItem t c = (rest : RawTrees) → HasNoTemplates (raw_before t rest) c

abbrev pub IsTopElement : RawElem → (List Template → List Template) → Type 0
IsTopElement e f = (rest : RawTrees) (ts : List Template) → AreTemplates rest ts
    → AreTemplates (element (name e.name) (attributes_of e) (scope_of e) (place e.place) (raw_trees e.kids.now) rest) (f ts)

abbrev pub HasNoTopElement : RawElem → Change → Type 0
HasNoTopElement e c = (rest : RawTrees) → HasNoTemplates (element (name e.name) (attributes_of e) (scope_of e) (place e.place) (raw_trees e.kids.now) rest) c
