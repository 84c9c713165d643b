use Rattle.std.proofs.Common.{◌-◌, drop}
use Rattle.tc_cert.specs.Puts.{IsOn}
use Rattle.tc_model.specs.CertificateLines.{hedge_line, hedge_behind}
use Rattle.tc_cert.specs.Texts.{rows_in, rows_left}
use Rattle.tc_cert.proofs.writing.put_hedge_rows.Given as goal

abbrev pub invariant-loop-i : goal.invariant-loop-i
invariant-loop-i l = IsOn l.fn.text l.text (rows_left hedge_behind (drop (l.i - 1) l.hedges)) (rows_in hedge_line hedge_behind l.hedges)
