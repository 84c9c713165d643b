use Rattle.std.proofs.Common.{flat_map, drop}
use Rattle.tc_cert.specs.Puts.{IsOn}
use Rattle.tc_model.specs.CertificateLines.{pair, pairs_line}
use Rattle.tc_cert.proofs.lines.put_pairs_line.Given as goal

abbrev pub invariant-loop-i : goal.invariant-loop-i
invariant-loop-i l = IsOn l.fn.text l.text (flat_map pair (drop l.i l.pairs)) (pairs_line l.pairs)
