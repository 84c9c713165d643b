use Rattle.tc_sheet.proofs.LawfulSheets.{lawful_sheet}
use Rattle.tc_sheet.proofs.EachSheet.{no_sheet_with_cause, sheet_or_cause}
use Rattle.tc_sheet.proofs.law_of_sheets.Goals as goal

pub returns-clause-lawful : goal.returns-clause-lawful
returns-clause-lawful c = lawful_sheet

pub returns-clause-none : goal.returns-clause-none
returns-clause-none c = no_sheet_with_cause

pub returns-clause-some : goal.returns-clause-some
returns-clause-some c = sheet_or_cause
