use Rattle.std.proofs.Common.{◌++◌, flat_map, drop, codes, decimal}
use Rattle.tc_cert.specs.Puts.{IsOn}
use Rattle.tc_model.specs.CertificateLines.{numbers}
use Rattle.tc_cert.proofs.lines.put_numbers.Given as goal

abbrev pub invariant-loop-i : goal.invariant-loop-i
invariant-loop-i l = IsOn l.fn.text l.text (flat_map (λ n. codes "," ++ decimal n) (drop l.i l.numbers)) (numbers l.numbers)
