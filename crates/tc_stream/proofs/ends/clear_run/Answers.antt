use Rattle.std.proofs.Common.{arith, sym, ◌∙◌}
use Rattle.tc_stream.proofs.EndLaws.{clear_front}
use Rattle.tc_stream.proofs.ends.clear_run.Goals as goal

pub returns : goal.returns
returns c = clear_front c.args.bytes.now c.in_ok-count.count c.in_ok-count.ensures (omega (arith, c.if-count-bytes.false)) (sym c.if-not-ends_run.false ∙ c.ends_run.ensures)
