use Rattle.tc_scan.proofs.NamesLaws.{at_none}
use Rattle.tc_dtd.proofs.ReaderLaws.{no_comment}
use Rattle.tc_dtd.proofs.misc.after_comment.Goals as goal

pub returns-in_err-behind : goal.returns-in_err-behind
returns-in_err-behind c = at_none _ c.from_residual-in_err-behind.ensures (no_comment c.args.text.now c.in_ok-inside.inside.now c.in_ok-inside.ensures c.in_err-behind.ensures)
