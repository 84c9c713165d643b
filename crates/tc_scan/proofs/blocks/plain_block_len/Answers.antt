use Rattle.tc_scan.proofs.BlockLaws.{plain_told, none_marked, first_marked, first_within}
use Rattle.tc_scan.proofs.blocks.plain_block_len.Goals as goal

pub returns-then-found-eq0-clause-count : goal.returns-then-found-eq0-clause-count
returns-then-found-eq0-clause-count c = none_marked _ _ _ (plain_told c.args.block c.fits-block.0) c.if-found-eq0.true

pub returns-else-found-eq0-clause-count : goal.returns-else-found-eq0-clause-count
returns-else-found-eq0-clause-count c = first_marked _ _ _ (plain_told c.args.block c.fits-block.0) c.if-found-eq0.false

pub returns-else-found-eq0-clause-within : goal.returns-else-found-eq0-clause-within
returns-else-found-eq0-clause-within c = first_within _ _ _ (plain_told c.args.block c.fits-block.0) c.if-found-eq0.false
