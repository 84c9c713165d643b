use Rattle.tc_settle.proofs.Whole.{is_closure}
use Rattle.tc_settle.proofs.settling.close.Goals as goal

pub returns-clause-closure : goal.returns-clause-closure
returns-clause-closure g c = is_closure c.args.most (g.R.NumberedRows.held c.find.new.rows) c.in_ok-closed.closed c.symbols-symbols.ensures.exact c.in_ok-closed.ensures.whole

pub find-requires-clause-nothing : goal.find-requires-clause-nothing
find-requires-clause-nothing g c = (c.requires.trees, c.requires.hedges)
