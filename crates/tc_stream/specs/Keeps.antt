-- What is kept of the elements that are open.
use Rattle.std.specs.Prelude.{◌≡◌, ◌<◌, ◌≤◌, ◌+◌, ◌*◌, ◌↔◌, ℕ, Bool, true, false, List, [], ◌∷◌, ◌++◌, Some, length, map, take, drop, reverse, IsUtf8, IsTrue, if◌then◌else◌}
use Rattle.std.specs.List.{AllByRecursion}
use Rattle.tc_model.specs.Grammars.{Grammar}
use Rattle.tc_model.specs.Names.{ExpandedName, IsChars}
use Rattle.tc_model.specs.RawTrees.{Attribute, Bound}
use Rattle.tc_model.specs.Trees.{none}
use Rattle.tc_model.specs.XmlText.{deepest_element}
use Rattle.tc_model.specs.XmlTextNames.{QualifiedName, QNameAt}
use Rattle.tc_model.specs.XmlTextScopes.{TagMeans, ElementName, is_empty}
use Rattle.tc_steps.specs.Led.{IsStarted}
use Rattle.tc_steps.specs.Open.{Open, IsWithin}
use Rattle.tc_steps.specs.Open as st
use Rattle.tc_steps.specs.declared.validity.Validity.{Validity}
use Rattle.tc_tags.specs.Bindings.{Binds, IsOnce}
use Rattle.tc_tags.specs.Forms.{FormRead}
use Rattle.tc_stream.specs.Goes.{Level, used, with_text, with_element}
use Rattle.tc_tags.specs.Scoped.{bound_by}
use Rattle.tc_tags.specs.Spans.{at_span}
use Rattle.tc_tags.specs.Written.{AreKept, AreMeant, AreWritten, StandsWithin, binding_in, bindings_of}
use Rattle.tc_stream.specs.XmlTextMeasures.{most_names}
use Rattle.tc_tags.specs.XmlTextTags.{WrittenElement, names_length}
use Rattle.tc_tags.specs.declared.attributes.Attribute as listed
use Rattle.tc_stream.specs.declared.elements.Elements.{Elements}
use Rattle.tc_stream.specs.declared.elements.Level as code
use Rattle.tc_stream.specs.declared.elements.NoElement.{NoElement}
use Rattle.tc_stream.specs.declared.elements.NoElement.TheVariants.{Malformed, NamesTooLong}
use Rattle.tc_tags.specs.declared.names.WrittenName.{WrittenName}
use Rattle.tc_tags.specs.declared.scopes.Declared.{Declared}
use Rattle.tc_tags.specs.declared.tags.Form.{Form}

-- a name as it is written
abbrev pub written_bytes : QualifiedName → List ℕ
written_bytes n = if is_empty n.prefix then n.local else n.prefix ++ 0x3A ∷ n.local

-- declarations bind what a scope does, in which no prefix is twice
pub record Holds (names : List ℕ) (declared : List Declared) (scope : List Bound) : Type 0 where
  pub binds : Binds (map (binding_in names) declared) scope
  pub once : IsOnce scope

-- the innermost of the elements whose names and declarations these are is kept so
pub record IsLevel (names : List ℕ) (declared : List Declared) (l : Level) (c : code.Level) : Type 0 where
  pub written : at_span c.name names ≡ written_bytes l.written.name
  pub named : QNameAt (written_bytes l.written.name) l.written.name []
  pub names_more : length names ≡ names_length l.written + c.names
  pub declared_more : length declared ≡ length (bindings_of l.written.attributes) + c.declared
  -- what stands before its own: what is in scope around it
  pub holds : Holds (take c.names names) (take c.declared declared) l.outer
  pub within : AllByRecursion (StandsWithin (length (take c.names names))) (take c.declared declared)
  -- its declarations have two bytes each, but the one of the default namespace, and its name has one
  pub few : 2 * length (bindings_of l.written.attributes) ≤ names_length l.written + 1

-- all of them, the innermost first
abbrev pub AreLevels : List ℕ → List Declared → List Level → List code.Level → Type 0
AreLevels names declared [] [] = (names ≡ []) × (declared ≡ [])
AreLevels names declared [] (c ∷ cs) = ⊥
AreLevels names declared (l ∷ ls) [] = ⊥
AreLevels names declared (l ∷ ls) (c ∷ cs) = IsLevel names declared l c × AreLevels (take c.names names) (take c.declared declared) ls cs

-- these elements are open, the innermost first, and this is in scope in the innermost
pub record AreOpen (names : List ℕ) (declared : List Declared) (chains : List ℕ) (levels : List code.Level) (ls : List Level) (scope : List Bound) : Type 0 where
  pub levels_are : AreLevels names declared ls (reverse levels)
  pub holds : Holds names declared scope
  pub kept : AreKept names declared chains
  pub deep : length ls ≤ deepest_element

-- a namespace name that is kept is text
abbrev pub IsText : List ℕ → Declared → Type 0
IsText names d = IsUtf8 (at_span d.uri names)

-- the same, where all that is kept is text
pub record IsKept (names : List ℕ) (declared : List Declared) (chains : List ℕ) (levels : List code.Level) (ls : List Level) (scope : List Bound) : Type 0 where
  pub are_open : AreOpen names declared chains levels ls scope
  pub texts : AllByRecursion (IsText names) declared

abbrev pub Keeps : Elements → List Level → List Bound → Type 0
Keeps e ls scope = IsKept e.rooms.names.bytes.items e.rooms.scopes.declared.items e.rooms.scopes.chains.chains e.levels.items ls scope

-- what is kept is of some elements: so much is so of what has no fault, whatever the schema is
abbrev pub IsOfSome : List ℕ → List Declared → List ℕ → List code.Level → Type 0
IsOfSome names declared chains levels = (ls : List Level) × (scope : List Bound) × AreOpen names declared chains levels ls scope

abbrev pub IsReady : Elements → Type 0
IsReady e = ∥ IsOfSome e.rooms.names.bytes.items e.rooms.scopes.declared.items e.rooms.scopes.chains.chains e.levels.items ∥₁

-- the elements as the steps of sets know them
abbrev pub path_of : List Level → List Open
path_of [] = []
path_of (l ∷ ls) = record { name = l.name; kids = l.kids } ∷ path_of ls

-- the steps of sets stand on this path, behind this text
abbrev pub StandIn : Grammar → Validity → List Open → List ℕ → Type 0
StandIn x v path run = IsWithin x v.steps.auto.now v.steps.alphabet.now v.steps.classes.items v.levels.items v.depth v.has_text path run

-- they stand in these elements
abbrev pub AreSteps : Grammar → Validity → List Level → List ℕ → Type 0
AreSteps x v ls run = StandIn x v (path_of ls) run

-- an element that has just been gone into
abbrev pub entered : WrittenElement → ExpandedName → List Bound → Level
entered e n outer = record { written = e; name = n; outer = outer; kids = none }

-- The meaning of a tag whose declarations stand among those that are kept

-- what its attributes mean, whose declarations stand behind the first so many
abbrev pub AreMeantBehind : List ℕ → List ℕ → List Declared → List listed.Attribute → ℕ → Type 0
AreMeantBehind bytes names declared list before = AreMeant bytes names declared (map (binding_in names) (drop before declared)) list

-- the name whose parts stand there
abbrev pub name_in : List ℕ → WrittenName → QualifiedName
name_in bytes n = record { prefix = at_span n.prefix bytes; local = at_span n.local bytes }

-- namespace names that are bound are text
abbrev pub AreTexts : List ℕ → List Declared → Type 0
AreTexts names declared = (prefix uri : List ℕ) → bound_by (reverse declared) names prefix ≡ Some uri → IsUtf8 uri

-- this is the expanded name of an element, or it has none
abbrev pub IsNamed : List ℕ → List ℕ → List Declared → WrittenName → ExpandedName → Type 0
IsNamed bytes names declared name n =
    (scope : List Bound) → IsUtf8 (at_span name.local bytes) → AreTexts names declared → Binds (map (binding_in names) declared) scope → ElementName scope (name_in bytes name) n

abbrev pub IsUnnamed : List ℕ → List ℕ → List Declared → WrittenName → Type 0
IsUnnamed bytes names declared name =
    (scope : List Bound) → IsUtf8 (at_span name.local bytes) → AreTexts names declared → Binds (map (binding_in names) declared) scope
    → (n : ExpandedName) → ElementName scope (name_in bytes name) n → ⊥

-- a tag whose names and declarations are kept means nothing
abbrev pub IsMeaningless : List ℕ → WrittenName → ℕ → Elements → Type 0
IsMeaningless bytes name before old =
    AreMeantBehind bytes old.rooms.names.bytes.items old.rooms.scopes.declared.items old.rooms.attributes.list.items before
    → IsUnnamed bytes old.rooms.names.bytes.items old.rooms.scopes.declared.items name

-- or it means something, and its element is gone into
pub record GoesInto (bytes : List ℕ) (name : WrittenName) (before : ℕ) (old new : Elements) : Type 0 where
  pub meant : AreMeantBehind bytes old.rooms.names.bytes.items old.rooms.scopes.declared.items old.rooms.attributes.list.items before
  pub expanded : ExpandedName
  pub named : IsNamed bytes old.rooms.names.bytes.items old.rooms.scopes.declared.items name expanded
  pub steps : (x : Grammar) (path : List Open) (run : List ℕ) → StandIn x old.validity path run → StandIn x new.validity (record { name = expanded; kids = none } ∷ st.with_text run path) []

-- Tags

-- an element with this tag is gone into
pub record Enters (old new : Elements) (ls : List Level) (outer : List Bound) (e : WrittenElement) : Type 0 where
  pub scope : List Bound
  pub name : ExpandedName
  pub expanded : List Attribute
  pub means : TagMeans outer e.name e.attributes scope name expanded
  pub few : names_length e + used ls ≤ most_names
  pub keeps : (run : List ℕ) → Keeps new (entered e name outer ∷ with_text run ls) scope
  pub steps : (x : Grammar) (run : List ℕ) → AreSteps x old.validity ls run → AreSteps x new.validity (entered e name outer ∷ with_text run ls) []

-- and out of it again, where it is empty
pub record Starts (old new : Elements) (ls : List Level) (outer : List Bound) (e : WrittenElement) (is_bare : Bool) : Type 0 where
  pub scope : List Bound
  pub name : ExpandedName
  pub expanded : List Attribute
  pub means : TagMeans outer e.name e.attributes scope name expanded
  pub few : names_length e + used ls ≤ most_names
  pub opens : is_bare ≡ false → (run : List ℕ) → Keeps new (entered e name outer ∷ with_text run ls) scope
  pub bare : is_bare ≡ true → (run : List ℕ) → Keeps new (with_element name none (with_text run ls)) outer
  pub steps_open : is_bare ≡ false → (x : Grammar) (run : List ℕ) → AreSteps x old.validity ls run → AreSteps x new.validity (entered e name outer ∷ with_text run ls) []
  pub steps_bare : is_bare ≡ true → (x : Grammar) (run : List ℕ) → AreSteps x old.validity ls run → AreSteps x new.validity (with_element name none (with_text run ls)) []
  -- where it is the root element
  pub valid : is_bare ≡ true → ls ≡ [] → (x : Grammar) (run : List ℕ) → AreSteps x old.validity [] run → IsTrue new.validity.is_valid ↔ IsStarted x name none

-- and why none with this tag is: its names pass their limit, or they mean nothing
abbrev pub NoStart : NoElement → List Level → List Bound → WrittenElement → Type 0
NoStart NamesTooLong ls outer e = most_names < names_length e + used ls
NoStart Malformed ls outer e =
    (names_length e + used ls ≤ most_names) × ((scope : List Bound) (name : ExpandedName) (expanded : List Attribute) → TagMeans outer e.name e.attributes scope name expanded → ⊥)

-- no element with this tag is gone into
abbrev pub IsRefused : List ℕ → Form → Elements → NoElement → Type 0
IsRefused bytes form old why =
    (e : WrittenElement) (ls : List Level) (outer : List Bound) → FormRead bytes form e → AreWritten bytes old.rooms.attributes.list.items e.attributes → IsChars bytes → Keeps old ls outer → NoStart why ls outer e
