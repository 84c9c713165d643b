use Rattle.std.proofs.Common.{◌∙◌}
use Rattle.tc_hedge.proofs.Puts.{text_put}
use Rattle.tc_hedge.proofs.hedge.Hedge.text_into.Goals as goal

pub returns-clause-pairs : goal.returns-clause-pairs
returns-clause-pairs c = λ side x st. text_put x side c.text_arrows.result.now c.clear.new.self c.put_arrows.new.out (c.text_arrows.ensures.exact side x st) c.clear.ensures.pairs c.put_arrows.ensures.pairs

pub returns-clause-size : goal.returns-clause-size
returns-clause-size c = c.put_arrows.ensures.kept.size ∙ c.clear.ensures.size

pub returns-clause-matrix : goal.returns-clause-matrix
returns-clause-matrix c = c.put_arrows.ensures.kept.matrix
