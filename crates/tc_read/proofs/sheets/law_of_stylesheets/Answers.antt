use Rattle.tc_read.proofs.SheetReasons.{no_sheet, sheet_or_reason}
use Rattle.tc_read.proofs.sheets.law_of_stylesheets.Goals as goal

pub returns-clause-none : goal.returns-clause-none
returns-clause-none c = no_sheet

pub returns-clause-some : goal.returns-clause-some
returns-clause-some c = sheet_or_reason
