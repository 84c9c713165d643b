-- Where the lines of sets of pairs are too long, the text of the least certificate is.
use Rattle.std.proofs.Common.{◌<◌, ◌≤◌, ◌++◌, ℕ, List, length, flat_map, codes, arith, length-append}
use Rattle.std.specs.List.{Contains}
use Rattle.std.proofs.lemmas.List.Concat.{length-flat_map}
use Rattle.tc_base.specs.declared.limits.TheConstants.{LONGEST_FILE}
use Rattle.tc_cert.specs.Texts.{text, by_changes, ended, heading, counted, output_text, outputs_part, rows_part}
use Rattle.tc_model.specs.declared.lists.CertData.{CertData}
use Rattle.tc_rows.specs.Counts.{AreDifferent, IsOutput}
use Rattle.tc_rows.specs.Triples.{Triple}
use Rattle.tc_close.specs.Certified.{IsLeastCertificate}
use Rattle.tc_close.proofs.More.{no_more}

-- the outputs' lines stand in the text
outputs_in_text : (d : CertData) → length (flat_map output_text d.outputs) ≤ length (text by_changes d)
outputs_in_text d =
    let front : List ℕ = ended (heading by_changes) in
    let count : List ℕ = ended (counted (codes "outputs") (length d.outputs)) in
    let lines : List ℕ = flat_map output_text d.outputs in
    let a = length-append front (outputs_part d.outputs ++ rows_part by_changes d) in
    let b = length-append (outputs_part d.outputs) (rows_part by_changes d) in
    let c = length-append count lines in
    omega (arith, a, b, c)

-- each of these sets is one of the certificate's
pub text_is_long : (x : Triple) (d : CertData) → IsLeastCertificate x d → (some : List (List (ℕ × ℕ))) → AreDifferent some → ((pairs : List (ℕ × ℕ)) → Contains some pairs → IsOutput x pairs)
    → LONGEST_FILE < length (flat_map output_text some) → LONGEST_FILE < length (text by_changes d)
text_is_long x d least some different each more =
    let fewer = no_more (λ ps. length (output_text ps)) some d.outputs different (λ pairs c. (least.outputs pairs).1 (each pairs c)) in
    let a = length-flat_map output_text some in
    let b = length-flat_map output_text d.outputs in
    let c = outputs_in_text d in
    omega (arith, more, fewer, a, b, c)
