use Rattle.std.proofs.Common.{flat_map, drop}
use Rattle.tc_cert.specs.Puts.{IsOn}
use Rattle.tc_cert.specs.Texts.{outputs_part, output_text}
use Rattle.tc_cert.proofs.writing.put_outputs.Given as goal

abbrev pub invariant-loop-i : goal.invariant-loop-i
invariant-loop-i l = IsOn l.fn.text l.text (flat_map output_text (drop l.i l.outputs)) (outputs_part l.outputs)
