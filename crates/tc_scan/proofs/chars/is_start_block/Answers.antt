use Rattle.tc_scan.proofs.PlainBlocks.{start_block}
use Rattle.tc_scan.proofs.chars.is_start_block.Goals as goal

pub returns : goal.returns
returns c = start_block c.args.block c.fits-block.0
