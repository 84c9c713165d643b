-- All that is said of a fault of a raw tree.
use Rattle.std.specs.Prelude.{ℕ}
use Rattle.tc_model.specs.RawTrees.{RawTrees}
use Rattle.tc_model.specs.Sheets.{Sheet}
use Rattle.tc_model.specs.SheetText.{SheetText, SheetFails, undefined, call_loop}
use Rattle.tc_sheet.specs.Changes.{mended, flattened, Changed}
use Rattle.tc_sheet.specs.Faults.{IsCause, IsUnsupported, IsTooDeep, IsUndefinedAt, IsLoopAt, NamesAgain, IsMalformedAt}
use Rattle.tc_sheet.specs.declared.faults.SheetFault.{SheetFault}

pub record IsTold (raw : RawTrees) (x : SheetFault) : Type 0 where
  pub cause : IsCause raw x
  pub unsupported : (changed : RawTrees) (s : Sheet) → Changed mended raw changed → SheetText changed s → IsUnsupported x
  pub deep : (changed : RawTrees) (s : Sheet) → Changed flattened raw changed → SheetText changed s → IsTooDeep x
  pub no_template : (m : ℕ) → SheetFails raw undefined m → IsUndefinedAt m x
  pub loops : (m : ℕ) → SheetFails raw call_loop m → IsLoopAt m x
  pub again : (m : ℕ) → NamesAgain raw m → IsMalformedAt m x
