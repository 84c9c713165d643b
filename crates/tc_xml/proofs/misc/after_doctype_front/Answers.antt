use Rattle.tc_scan.proofs.NamesLaws.{at_none}
use Rattle.tc_xml.proofs.MiscLaws.{no_external, no_white_front, no_name_front}
use Rattle.tc_xml.proofs.misc.after_doctype_front.Goals as goal

pub returns-in_err-end : goal.returns-in_err-end
returns-in_err-end c =
    at_none _ c.from_residual-in_err-end.ensures
    (no_external c.args.text.now c.in_ok-rest.rest.now c.in_ok-start.start.now c.in_ok-behind.behind.now _ c.in_ok-rest.ensures c.in_ok-start.ensures.1 c.in_ok-behind.ensures c.in_err-end.ensures)

pub returns-in_err-rest : goal.returns-in_err-rest
returns-in_err-rest c = at_none _ c.from_residual.ensures (λ after a. c.in_err-rest.ensures a.rest a.opens)

pub returns-in_err-start : goal.returns-in_err-start
returns-in_err-start c = at_none _ c.from_residual-in_err-start.ensures (no_white_front c.args.text.now c.in_ok-rest.rest.now c.in_ok-rest.ensures c.in_err-start.ensures)

pub returns-in_err-behind : goal.returns-in_err-behind
returns-in_err-behind c = at_none _ c.from_residual-in_err-behind.ensures (no_name_front c.args.text.now c.in_ok-rest.rest.now c.in_ok-start.start.now c.in_ok-rest.ensures c.in_ok-start.ensures.1 c.in_err-behind.ensures)
