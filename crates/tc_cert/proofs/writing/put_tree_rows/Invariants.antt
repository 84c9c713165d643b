use Rattle.std.proofs.Common.{◌-◌, drop}
use Rattle.tc_cert.specs.Puts.{IsOn}
use Rattle.tc_model.specs.CertificateLines.{tree_line, tree_behind}
use Rattle.tc_cert.specs.Texts.{rows_in, rows_left}
use Rattle.tc_cert.proofs.writing.put_tree_rows.Given as goal

abbrev pub invariant-loop-i : goal.invariant-loop-i
invariant-loop-i l = IsOn l.fn.text l.text (rows_left tree_behind (drop (l.i - 1) l.trees)) (rows_in tree_line tree_behind l.trees)
