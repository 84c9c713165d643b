use Rattle.tc_scan.proofs.NamesLaws.{at_none}
use Rattle.tc_rnc.specs.Views as seen
use Rattle.tc_rnc.proofs.Escapes.{no_literal, text_lacks}
use Rattle.tc_rnc.proofs.faults.escape_in_literal.Goals as goal

pub returns-in_err-quotes : goal.returns-in_err-quotes
returns-in_err-quotes c = at_none _ c.from_residual.ensures (no_literal (seen.token c.args.token.now) c.in_err-quotes.ensures.text)

pub returns-in_err-before : goal.returns-in_err-before
returns-in_err-before c = at_none _ c.from_residual-in_err-before.ensures (text_lacks (seen.token c.args.token.now) c.in_ok-quotes.ensures.text c.in_err-before.ensures)
