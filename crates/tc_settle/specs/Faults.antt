-- What becomes of a fault of rows.
use Rattle.tc_settle.specs.declared.closed.CloseFault.{CloseFault}
use Rattle.tc_settle.specs.declared.closed.CloseFault.TheVariants as close
use Rattle.tc_settle.specs.declared.rows.HoldFault.{HoldFault}
use Rattle.tc_settle.specs.declared.rows.HoldFault.TheVariants as hold

abbrev pub close_fault : HoldFault → CloseFault
close_fault hold.Full = close.Full
close_fault hold.NoMemory = close.NoMemory
