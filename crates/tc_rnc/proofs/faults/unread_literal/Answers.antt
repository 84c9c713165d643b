use Rattle.std.proofs.Common.{sym}
use Rattle.tc_scan.proofs.NamesLaws.{at_none}
use Rattle.tc_rnc.specs.Refusals.{unsupported}
use Rattle.tc_rnc.proofs.Constructs.{escape_stops, three_stop, reads_in_none}
use Rattle.tc_rnc.proofs.faults.unread_literal.Goals as goal

pub returns-in_err-first : goal.returns-in_err-first
returns-in_err-first c = at_none _ c.from_residual.ensures (reads_in_none c.in_err-first.ensures)

pub returns-in-Some : goal.returns-in-Some
returns-in-Some c = unsupported (escape_stops c.in_ok-first.ensures (sym c.if-not-is_literal.ensures) c.in-Some.ensures)

pub returns-in-None : goal.returns-in-None
returns-in-None c = unsupported (three_stop c.in_ok-first.ensures (sym c.if-not-is_literal.ensures) c.in_default.ensures c.in-None.ensures)
