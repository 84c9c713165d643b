use Rattle.tc_scan.proofs.NamesLaws.{at_none}
use Rattle.tc_xml.proofs.MiscLaws.{no_spaced_literal}
use Rattle.tc_xml.proofs.misc.after_spaced_literal.Goals as goal

pub returns-in_err-after : goal.returns-in_err-after
returns-in_err-after c = at_none _ c.from_residual-in_err-after.ensures (no_spaced_literal c.args.text.now c.in_ok-start.start.now c.in_ok-start.ensures.1 c.in_err-after.ensures)

pub returns-in_err-start : goal.returns-in_err-start
returns-in_err-start c = at_none _ c.from_residual.ensures (λ v after w l. c.in_err-start.ensures w)
