use Rattle.tc_scan.proofs.NamesLaws.{at_none}
use Rattle.tc_dtd.proofs.ReaderLaws.{map_option, no_setting_equals, no_setting_literal, a_setting}
use Rattle.tc_dtd.proofs.misc.setting.Goals as goal

pub returns-in_err-value : goal.returns-in_err-value
returns-in_err-value c =
    at_none _ c.from_residual-in_err-value.ensures
    (no_setting_equals c.args.word.now c.args.text.now c.in_ok-start.start.now c.in_ok-behind.behind.now c.in_ok-start.ensures.1 c.in_ok-behind.ensures c.in_err-value.ensures)

pub returns : goal.returns
returns c =
    map_option _ _ c.literal.result
    (no_setting_literal c.args.word.now c.args.text.now c.in_ok-start.start.now c.in_ok-behind.behind.now c.in_ok-value.value.now c.in_ok-start.ensures.1 c.in_ok-behind.ensures c.in_ok-value.ensures)
    (λ r l. a_setting c.args.word.now c.args.text.now c.in_ok-start.start.now c.in_ok-behind.behind.now c.in_ok-value.value.now r.0.now r.1.now c.in_ok-start.ensures.0 c.in_ok-start.ensures.1 c.in_ok-behind.ensures c.in_ok-value.ensures l)
    c.literal.ensures
