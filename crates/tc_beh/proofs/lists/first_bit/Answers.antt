use Rattle.std.proofs.Common.{refl}
use Rattle.tc_beh.proofs.RowBits.{no_bit, one_bit}
use Rattle.tc_beh.proofs.lists.first_bit.Goals as goal

pub returns-then-rest-eq0 : goal.returns-then-rest-eq0
returns-then-rest-eq0 c = no_bit c.args.word c.args.start c.if-rest-eq0.true

pub returns : goal.returns
returns c = one_bit c.args.word c.args.start _ c.ranges.word.fits c.if-rest-eq0.false refl
