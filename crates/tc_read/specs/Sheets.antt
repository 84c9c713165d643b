-- The stylesheet of a text.
use Rattle.std.specs.Prelude.{ℕ, List}
use Rattle.tc_model.specs.RawTrees.{RawTrees}
use Rattle.tc_model.specs.Sheets.{Sheet}
use Rattle.tc_model.specs.SheetText.{SheetMeans, SheetText}
use Rattle.tc_model.specs.XmlText.{XmlText}

-- The text is that of a raw tree, which means this stylesheet. A text means one stylesheet at most, also one that is refused for a fault of its
-- templates' names or of its calls: so what holds of each stylesheet that a text means says more than what holds of the one of a text without a fault.
pub record MeansSheet (bytes : List ℕ) (s : Sheet) : Type 0 where
  pub raw : RawTrees
  pub text : XmlText bytes raw
  pub means : SheetMeans raw s

-- the text is that of a raw tree, which means this stylesheet and has no fault
pub record IsSheetOf (bytes : List ℕ) (s : Sheet) : Type 0 where
  pub raw : RawTrees
  pub text : XmlText bytes raw
  pub means : SheetText raw s
