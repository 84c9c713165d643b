use Rattle.std.proofs.Common.{length, refl}
use Rattle.std.proofs.lemmas.Option.{slice_get_read}
use Rattle.tc_auto.proofs.Totals.{row_edges}
use Rattle.tc_auto.proofs.auto.Auto.follow.Goals as goal

pub returns-clause-exact : goal.returns-clause-exact
returns-clause-exact c = λ side x st e. row_edges side x c.args.self.now st c.args.state c.index.result.now (slice_get_read c.args.self.now.rows.items (length c.args.self.now.rows.items) c.args.state c.index.result.now refl c.requires c.index.ensures) _ c.as_slice.ensures.value e
