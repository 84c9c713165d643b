use Rattle.std.proofs.Common.{◌≡◌, ◌+◌, map, take, flat_map, length}
use Rattle.tc_base.specs.declared.limits.TheConstants.{LONGEST_FILE}
use Rattle.tc_beh.specs.Held.{set_at}
use Rattle.tc_beh.specs.Outs.{sets_of}
use Rattle.tc_beh.specs.Places.{pairs_of}
use Rattle.tc_cert.specs.Texts.{output_text}
use Rattle.tc_model.specs.CertificateLines.{pairs_line}
use Rattle.tc_model.specs.Numbered.{numbers_below}
use Rattle.tc_close.proofs.certificate.output_lines.Given as goal

abbrev pub invariant-loop-number : goal.invariant-loop-number
invariant-loop-number g l =
    (l.all ≡ map (λ n. pairs_line (pairs_of (set_at l.rows.outputs n))) (numbers_below l.number))
    × (l.room + length (flat_map output_text (take l.number (sets_of l.rows.outputs.matrices))) ≡ LONGEST_FILE)
