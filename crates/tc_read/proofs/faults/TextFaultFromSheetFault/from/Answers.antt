use Rattle.std.proofs.Common.{rules}
use Rattle.tc_read.proofs.faults.TextFaultFromSheetFault.from.Goals as goal

pub returns-in-Undefined : goal.returns-in-Undefined
returns-in-Undefined c = search rules
