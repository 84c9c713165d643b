use Rattle.tc_scan.proofs.PlainBlocks.{printed_block}
use Rattle.tc_scan.proofs.chars.is_printed.Goals as goal

pub returns : goal.returns
returns c = printed_block c.args.block c.fits-block.0 c.fits-block.1
