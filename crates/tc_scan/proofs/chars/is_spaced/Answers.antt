use Rattle.tc_scan.proofs.PlainBlocks.{plain_block}
use Rattle.tc_scan.proofs.chars.is_spaced.Goals as goal

pub returns : goal.returns
returns c = plain_block c.args.block c.fits-block.0
