use Rattle.tc_scan.proofs.NamesLaws.{at_none}
use Rattle.tc_xml.proofs.MiscLaws.{map_option, an_id_end, no_id_white, no_id_word, no_system, a_system, same_end, no_public_first, no_public_second, a_public}
use Rattle.tc_xml.proofs.misc.after_external_id.Goals as goal

pub returns-then-ends_doctype : goal.returns-then-ends_doctype
returns-then-ends_doctype c =
    let (r, e) = c.if-ends_doctype.ensures in an_id_end c.args.text.now c.after_white-start.result.now r c.after_white-start.ensures e

pub returns-in_err-start : goal.returns-in_err-start
returns-in_err-start c =
    at_none _ c.from_residual.ensures (no_id_white c.args.text.now c.after_white-start.result.now c.after_white-start.ensures c.if-ends_doctype.ensures c.in_err-start.ensures)

pub returns-in-Some : goal.returns-in-Some
returns-in-Some c =
    let h = same_end c.args.text.now c.after_white-start.result.now c.in_ok-start.start.now c.after_white-start.ensures c.in_ok-start.ensures.1 c.if-ends_doctype.ensures in
    map_option _ _ c.after_spaced_literal.result
    (no_system c.args.text.now c.in_ok-start.start.now c.in-Some.behind.now c.in_ok-start.ensures.1 h c.in-Some.ensures)
    (λ r k. a_system c.args.text.now c.in_ok-start.start.now c.in-Some.behind.now r.now c.in_ok-start.ensures.0 c.in_ok-start.ensures.1 c.in-Some.ensures k)
    c.after_spaced_literal.ensures

pub returns-in_err-behind : goal.returns-in_err-behind
returns-in_err-behind c =
    let h = same_end c.args.text.now c.after_white-start.result.now c.in_ok-start.start.now c.after_white-start.ensures c.in_ok-start.ensures.1 c.if-ends_doctype.ensures in
    at_none _ c.from_residual-in_err-behind.ensures
    (no_id_word c.args.text.now c.in_ok-start.start.now c.in_ok-start.ensures.1 h c.in_default.ensures c.in_err-behind.ensures)

pub returns-in_err-second : goal.returns-in_err-second
returns-in_err-second c =
    let h = same_end c.args.text.now c.after_white-start.result.now c.in_ok-start.start.now c.after_white-start.ensures c.in_ok-start.ensures.1 c.if-ends_doctype.ensures in
    at_none _ c.from_residual-in_err-second.ensures
    (no_public_first c.args.text.now c.in_ok-start.start.now c.in_ok-behind.behind.now c.in_ok-start.ensures.1 h c.in_ok-behind.ensures c.in_err-second.ensures)

pub returns : goal.returns
returns c =
    let h = same_end c.args.text.now c.after_white-start.result.now c.in_ok-start.start.now c.after_white-start.ensures c.in_ok-start.ensures.1 c.if-ends_doctype.ensures in
    map_option _ _ c.after_spaced_literal-3.result
    (no_public_second c.args.text.now c.in_ok-start.start.now c.in_ok-behind.behind.now c.in_ok-second.second.now c.in_ok-start.ensures.1 h c.in_ok-behind.ensures c.in_ok-second.ensures)
    (λ r k. a_public c.args.text.now c.in_ok-start.start.now c.in_ok-behind.behind.now c.in_ok-second.second.now r.now c.in_ok-start.ensures.0 c.in_ok-start.ensures.1 c.in_ok-behind.ensures c.in_ok-second.ensures k)
    c.after_spaced_literal-3.ensures
