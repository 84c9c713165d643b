-- The fault of an attribute whose value isn't read.
use Rattle.tc_base.specs.declared.Place.{Place}
use Rattle.tc_path.specs.declared.PathFault.{PathFault}
use Rattle.tc_path.specs.declared.PathFault.TheVariants as path
use Rattle.tc_sheet.specs.declared.faults.SheetFault.{SheetFault}
use Rattle.tc_sheet.specs.declared.faults.SheetFault.TheVariants.{Malformed, Unsupported, TooDeep, NoMemory}

abbrev pub path_fault_at : Place → PathFault → SheetFault
path_fault_at p path.Malformed = Malformed p
path_fault_at p (path.Unsupported why) = Unsupported p why
path_fault_at p path.TooDeep = TooDeep p
path_fault_at p path.NoMemory = NoMemory
