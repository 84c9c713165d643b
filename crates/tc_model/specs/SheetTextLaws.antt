-- Laws of stylesheets as XML: a raw tree means one stylesheet at most, and has one fault at most.
use Rattle.std.specs.Prelude.{◌≡◌, ℕ, List}
use Rattle.tc_model.specs.RawTrees.{RawTrees}
use Rattle.tc_model.specs.Sheets.{Sheet}
use Rattle.tc_model.specs.SheetTextTrees.{Template}
use Rattle.tc_model.specs.SheetTextPhrases.{IsStylesheet}
use Rattle.tc_model.specs.SheetText.{SheetMeans, SheetText, SheetFault, SheetFails}

-- as it is written, too: one list of templates
abbrev pub HasOneListOfTemplates : Type 0
HasOneListOfTemplates = (raw : RawTrees) (ts us : List Template) → IsStylesheet raw ts → IsStylesheet raw us → ts ≡ us

-- one stylesheet at most, also where templates or calls are at fault
abbrev pub HasOneSheet : Type 0
HasOneSheet = (raw : RawTrees) (s t : Sheet) → SheetMeans raw s → SheetMeans raw t → s ≡ t

-- one fault at most of calls, at one place
abbrev pub HasOneSheetFault : Type 0
HasOneSheetFault = (raw : RawTrees) (f g : SheetFault) (m n : ℕ) → SheetFails raw f m → SheetFails raw g n → (f ≡ g) × (m ≡ n)

-- and then no stylesheet
abbrev pub HasNoSheet : Type 0
HasNoSheet = (raw : RawTrees) (f : SheetFault) (m : ℕ) (s : Sheet) → SheetFails raw f m → SheetText raw s → ⊥
