use Rattle.std.proofs.Common.{◌∙◌}
use Rattle.tc_scan.proofs.PlainBlocks.{all_behind}
use Rattle.tc_scan.proofs.chars.start_chars_only.Goals as goal

pub returns : goal.returns
returns c = c.each_starts_chars_only.ensures ∙ all_behind c.args.bytes.now c.start_blocks_len-blocks.result c.start_blocks_len-blocks.ensures.within c.start_blocks_len-blocks.ensures.only
