use Rattle.std.proofs.Common.{◌≢◌, All, drop}
use Rattle.tc_sheet.proofs.attributes.has_brace.Given as goal

abbrev pub invariant-loop-byte : goal.invariant-loop-byte
invariant-loop-byte l = All (λ b. b ≢ 0x7B) (drop l.byte-index l.byte-items) → All (λ b. b ≢ 0x7B) l.text
