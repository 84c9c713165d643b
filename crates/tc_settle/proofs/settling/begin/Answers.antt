use Rattle.tc_settle.proofs.Begun.{begun_at, begun_text}
use Rattle.tc_settle.proofs.settling.begin.Goals as goal

pub try_text-requires : goal.try_text-requires
try_text-requires g c = begun_at c.args.most (g.R.NumberedRows.held c.find_none.new.rows) c.in_ok-closed.closed c.requires.most c.in_ok-closed.ensures.kept

pub returns-clause-begun : goal.returns-clause-begun
returns-clause-begun g c =
    begun_text c.args.most (g.R.NumberedRows.held c.find_none.new.rows) (g.R.NumberedRows.held c.try_text.new.rows) c.in_ok-closed.closed c.try_text.new.closed c.in_ok-closed.ensures.kept c.in_ok-try_text.ensures.tried
