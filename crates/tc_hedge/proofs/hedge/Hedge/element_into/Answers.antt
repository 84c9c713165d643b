use Rattle.tc_hedge.proofs.Leading.{pairs_surround}
use Rattle.tc_hedge.proofs.Sides.{around_told, symbol_row_tells}
use Rattle.tc_hedge.proofs.hedge.Hedge.element_into.Goals as goal

pub returns-clause-pairs : goal.returns-clause-pairs
returns-clause-pairs c = λ side x symbols st name is.
    around_told x side name _ c.args.inner.now c.put_around.new.out
    (symbol_row_tells side x symbols c.args.self.now st name c.args.sym.0 is c.deref.result.now c.deref.ensures.value c.patterns-patterns.result c.patterns-patterns.ensures.here)
    (c.put_around.ensures.pairs side x st.auto)

pub returns-clause-around : goal.returns-clause-around
returns-clause-around c = λ side x symbols st name is kids pairs.
    pairs_surround x side name kids c.args.inner.now c.put_around.new.out pairs (returns-clause-pairs c side x symbols st name is)

pub returns-clause-size : goal.returns-clause-size
returns-clause-size c = c.put_around.ensures.kept.size

pub returns-clause-matrix : goal.returns-clause-matrix
returns-clause-matrix c = c.put_around.ensures.kept.matrix

pub put_around-requires-clause-inner : goal.put_around-requires-clause-inner
put_around-requires-clause-inner c = c.requires.inner

pub put_around-requires-clause-out : goal.put_around-requires-clause-out
put_around-requires-clause-out c = c.requires.out
