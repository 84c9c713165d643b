-- A text means one stylesheet at most, which is the one of a text without a fault.
use Rattle.std.proofs.Common.{◌≡◌, ℕ, List, subst}
use Rattle.tc_model.specs.RawTrees.{RawTrees}
use Rattle.tc_model.specs.SheetText.{SheetMeans}
use Rattle.tc_model.specs.Sheets.{Sheet}
use Rattle.tc_model.proofs.SheetTextUnique as model
use Rattle.tc_model.proofs.XmlTextTrees.{one_raw_tree}
use Rattle.tc_read.specs.Sheets.{MeansSheet, IsSheetOf}

pub one_sheet_meaning : {bytes : List ℕ} {s t : Sheet} → MeansSheet bytes s → MeansSheet bytes t → s ≡ t
one_sheet_meaning {bytes} {s} a b = model.one_sheet_meaning (subst (λ (h : RawTrees). SheetMeans h s) (one_raw_tree bytes a.raw b.raw a.text b.text) a.means) b.means

pub sheet_means : {bytes : List ℕ} {s : Sheet} → IsSheetOf bytes s → MeansSheet bytes s
sheet_means a = record { raw = a.raw; text = a.text; means = model.sheet_means a.means }
