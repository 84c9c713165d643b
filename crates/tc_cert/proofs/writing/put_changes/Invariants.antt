use Rattle.std.proofs.Common.{◌++◌, flat_map, drop, codes}
use Rattle.tc_cert.specs.Puts.{IsOn}
use Rattle.tc_model.specs.CertificateLines.{listed, change}
use Rattle.tc_cert.proofs.writing.put_changes.Given as goal

abbrev pub invariant-loop-i : goal.invariant-loop-i
invariant-loop-i l = IsOn l.fn.text l.text (flat_map (λ c. codes "," ++ change c) (drop l.i l.changes)) (listed change l.changes)
