-- Laws of stylesheets that are read.
use Rattle.std.specs.Prelude.{◌⊎◌, ℕ}
use Rattle.tc_model.specs.RawTrees.{RawTrees, IsOneElement}
use Rattle.tc_model.specs.Sheets.{Sheet}
use Rattle.tc_model.specs.SheetText.{SheetText}
use Rattle.tc_model.specs.WellFormed.{IsSheet}
use Rattle.tc_model.specs.XmlTextLaws.{AreLawfulWithin}
use Rattle.tc_sheet.specs.Faults.{IsCause}
use Rattle.tc_sheet.specs.declared.faults.SheetFault.{SheetFault}
use Rattle.tc_sheet.specs.declared.faults.SheetFault.TheVariants.{Malformed, Unsupported, TooDeep, Undefined, CallLoop, NoMemory}

-- the stylesheet of a tree whose names and texts are lawful is well-formed
abbrev pub HasLawfulSheet : Type 0
HasLawfulSheet = (total : ℕ) (raw : RawTrees) (s : Sheet) → AreLawfulWithin total raw → SheetText raw s → IsSheet s

-- a refusal, and no want of memory
abbrev pub IsRefusal : SheetFault → Type 0
IsRefusal (Malformed p) = Unit {0}
IsRefusal (Unsupported p why) = Unit {0}
IsRefusal (TooDeep p) = Unit {0}
IsRefusal (Undefined p) = Unit {0}
IsRefusal (CallLoop p) = Unit {0}
IsRefusal NoMemory = ⊥

-- a tree that has a cause to be refused spells no stylesheet
abbrev pub HasNoSheetWithCause : Type 0
HasNoSheetWithCause = (raw : RawTrees) (x : SheetFault) (s : Sheet) → IsRefusal x → IsCause raw x → SheetText raw s → ⊥

-- each tree of one element spells a stylesheet, or has such a cause
abbrev pub HasSheetOrCause : Type 0
HasSheetOrCause = (raw : RawTrees) → IsOneElement raw → ((s : Sheet) × SheetText raw s) ⊎ ((x : SheetFault) × (IsRefusal x × IsCause raw x))
