-- Why a raw tree isn't a stylesheet.
-- Of several faults the first that is met is told: of an element first its attributes that must not be there,
-- then those that are read, then what it holds, in the order of the text. Of `xsl:template` the attributes
-- `match`, `priority`, `name` and `mode` are read in this order, and what it lacks comes after them; of
-- `xsl:apply-templates` `select` and then `mode`; any other element has one attribute that is read at most.
-- Two templates of one name come after all these, calls last, undefined ones before loops.
use Rattle.std.specs.Prelude.{◌≡◌, ℕ, List}
use Rattle.tc_model.specs.RawTrees.{RawTrees}
use Rattle.tc_model.specs.Views.{place}
use Rattle.tc_model.specs.SheetTextTrees.{Template}
use Rattle.tc_model.specs.SheetTextPhrases.{IsStylesheet}
use Rattle.tc_model.specs.SheetText.{SheetFails, undefined, call_loop}
use Rattle.tc_sheet.specs.Changes.{Change, mended, flattened, both, Changed}
use Rattle.tc_sheet.specs.LookedAt.{IsLookedAt, IsAt, IsUnrefused, IsRefused, IsDeep}
use Rattle.tc_sheet.specs.Tables.{IsNamedAgain}
use Rattle.tc_sheet.specs.declared.faults.SheetFault.{SheetFault}
use Rattle.tc_sheet.specs.declared.faults.SheetFault.TheVariants.{Malformed, Unsupported, TooDeep, Undefined, CallLoop, NoMemory}

-- this holds of the templates of whatever it becomes when some of this is changed
abbrev pub OfAllWith : Change → RawTrees → (List Template → Type 0) → Type 0
OfAllWith c raw P = (changed : RawTrees) (ts : List Template) → Changed c raw changed → IsStylesheet changed ts → P ts

-- even when some of this is changed, it is no stylesheet, whatever the names of templates are
abbrev pub IsNoneWith : Change → RawTrees → Type 0
IsNoneWith c raw = OfAllWith c raw (λ ts. ⊥)

-- the tree is a stylesheet but for the names of templates: the template at this place is the first whose name one before it has
pub record NamesAgain (raw : RawTrees) (p : ℕ) : Type 0 where
  pub templates : List Template
  pub written : IsStylesheet raw templates
  pub again : IsNamedAgain templates p

-- The cause of a fault. A tree that is unsupported isn't a stylesheet even where its selects, patterns and tests didn't nest too deep; one that
-- nests too deep, even without what is unsupported; and one that is malformed, even without both, unless a template is named again at that place.
-- Malformed is said of what no reason of its own refuses.
abbrev pub IsCause : RawTrees → SheetFault → Type 0
IsCause raw (Malformed p) = IsAt (IsLookedAt raw) IsUnrefused (place p) × OfAllWith both raw (λ ts. IsNamedAgain ts (place p))
IsCause raw (Unsupported p why) = IsAt (IsLookedAt raw) (IsRefused why) (place p) × IsNoneWith flattened raw
IsCause raw (TooDeep p) = IsAt (IsLookedAt raw) IsDeep (place p) × IsNoneWith mended raw
IsCause raw (Undefined p) = SheetFails raw undefined (place p)
IsCause raw (CallLoop p) = SheetFails raw call_loop (place p)
IsCause raw NoMemory = Unit {0}

-- the fault is a construct that is not supported, or want of memory
abbrev pub IsUnsupported : SheetFault → Type 0
IsUnsupported (Malformed p) = ⊥
IsUnsupported (Unsupported p why) = Unit {0}
IsUnsupported (TooDeep p) = ⊥
IsUnsupported (Undefined p) = ⊥
IsUnsupported (CallLoop p) = ⊥
IsUnsupported NoMemory = Unit {0}

-- the fault is nesting that is too deep, or want of memory
abbrev pub IsTooDeep : SheetFault → Type 0
IsTooDeep (Malformed p) = ⊥
IsTooDeep (Unsupported p why) = ⊥
IsTooDeep (TooDeep p) = Unit {0}
IsTooDeep (Undefined p) = ⊥
IsTooDeep (CallLoop p) = ⊥
IsTooDeep NoMemory = Unit {0}

-- the fault is a call that has no template, at this place, or want of memory
abbrev pub IsUndefinedAt : ℕ → SheetFault → Type 0
IsUndefinedAt q (Malformed p) = ⊥
IsUndefinedAt q (Unsupported p why) = ⊥
IsUndefinedAt q (TooDeep p) = ⊥
IsUndefinedAt q (Undefined p) = place p ≡ q
IsUndefinedAt q (CallLoop p) = ⊥
IsUndefinedAt q NoMemory = Unit {0}

-- the fault is a call that leads back to its template, at this place, or want of memory
abbrev pub IsLoopAt : ℕ → SheetFault → Type 0
IsLoopAt q (Malformed p) = ⊥
IsLoopAt q (Unsupported p why) = ⊥
IsLoopAt q (TooDeep p) = ⊥
IsLoopAt q (Undefined p) = ⊥
IsLoopAt q (CallLoop p) = place p ≡ q
IsLoopAt q NoMemory = Unit {0}

-- the fault is none of calls
abbrev pub IsNoFaultOfCalls : SheetFault → Type 0
IsNoFaultOfCalls (Malformed p) = Unit {0}
IsNoFaultOfCalls (Unsupported p why) = Unit {0}
IsNoFaultOfCalls (TooDeep p) = Unit {0}
IsNoFaultOfCalls (Undefined p) = ⊥
IsNoFaultOfCalls (CallLoop p) = ⊥
IsNoFaultOfCalls NoMemory = Unit {0}

-- the fault is that it is malformed, at this place, or want of memory
abbrev pub IsMalformedAt : ℕ → SheetFault → Type 0
IsMalformedAt q (Malformed p) = place p ≡ q
IsMalformedAt q (Unsupported p why) = ⊥
IsMalformedAt q (TooDeep p) = ⊥
IsMalformedAt q (Undefined p) = ⊥
IsMalformedAt q (CallLoop p) = ⊥
IsMalformedAt q NoMemory = Unit {0}
