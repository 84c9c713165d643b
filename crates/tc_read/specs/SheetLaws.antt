-- Laws of stylesheets: which texts are refused.
use Rattle.std.specs.Prelude.{◌⊎◌, ℕ, List}
use Rattle.tc_model.specs.Sheets.{Sheet}
use Rattle.tc_read.specs.Refusals.{IsRefusedSheet}
use Rattle.tc_read.specs.Sheets.{IsSheetOf}
use Rattle.tc_read.specs.declared.faults.Reason.{Reason}

-- a text that is refused spells no stylesheet
abbrev pub HasNoSheet : Type 0
HasNoSheet = (bytes : List ℕ) (r : Reason) (k : ℕ) (s : Sheet) → IsRefusedSheet bytes r k → IsSheetOf bytes s → ⊥

-- each text spells a stylesheet, or is refused for some reason at some place
abbrev pub HasSheetOrReason : Type 0
HasSheetOrReason = (bytes : List ℕ) → ((s : Sheet) × IsSheetOf bytes s) ⊎ ((r : Reason) × ((k : ℕ) × IsRefusedSheet bytes r k))
