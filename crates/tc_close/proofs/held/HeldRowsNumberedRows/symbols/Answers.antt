use Rattle.tc_close.proofs.Exact.{is_exact}
use Rattle.tc_close.proofs.held.HeldRowsNumberedRows.symbols.Goals as goal

pub returns-clause-exact : goal.returns-clause-exact
returns-clause-exact g c = is_exact g.K.Over.is_of c.args.self.now c.output_count-outputs.ensures.known
