use Rattle.std.proofs.Common.{sym}
use Rattle.tc_sheet.proofs.NameLaws.{no_whole}
use Rattle.tc_sheet.proofs.attributes.whole_name.Goals as goal

pub returns-else-is_empty : goal.returns-else-is_empty
returns-else-is_empty c = no_whole c.in_ok-name.ensures (sym c.if-is_empty.ensures)
