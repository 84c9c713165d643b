use Rattle.std.proofs.Common.{◌∙◌, sym}
use Rattle.tc_scan.proofs.PlainBlocks.{ascii_chars}
use Rattle.tc_scan.proofs.chars.are_few_ascii_chars.Goals as goal

pub returns : goal.returns
returns c = λ h. ascii_chars c.args.bytes.now (sym c.are_ascii_chars.ensures ∙ h)
