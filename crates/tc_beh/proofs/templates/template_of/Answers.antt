use Rattle.std.proofs.Common.{get_or}
use Rattle.tc_rules.specs.Kept.{told}
use Rattle.tc_model.specs.Views as see
use Rattle.tc_beh.proofs.Deepest.{rule_in_sheet}
use Rattle.tc_beh.proofs.Meant.{no_rule, found_low, found_number, rule_got, rule_part_at, rule_meant}
use Rattle.tc_beh.proofs.RunLaws.{rule_body_got}
use Rattle.tc_beh.proofs.templates.template_of.Goals as goal

pub returns-in-Rule-clause-part : goal.returns-in-Rule-clause-part
returns-in-Rule-clause-part c =
    let r = c.args.rules.now in
    let (x, is) = c.requires.rules in
    let rule = get_or c.sheet.result.now.rules.now c.in-Rule.number no_rule in
    let low = found_low c.args.found c.in-Rule.number _ c.in-Rule.is c.requires.found in
    let got = rule_got (told r).sheet c.sheet.result.now c.in-Rule.number no_rule c.sheet.ensures low in
    (rule_part_at r x is c.in-Rule.number rule got, rule_body_got (told r).sheet c.in-Rule.number (see.rule rule) got)

pub returns-in-Rule-clause-meant : goal.returns-in-Rule-clause-meant
returns-in-Rule-clause-meant c = λ x own o is e.
    let r = c.args.rules.now in
    let rule = get_or c.sheet.result.now.rules.now c.in-Rule.number no_rule in
    let low = found_low c.args.found c.in-Rule.number _ c.in-Rule.is c.requires.found in
    rule_meant r x is (own c.args.mode) o c.in-Rule.number rule (rule_got (told r).sheet c.sheet.result.now c.in-Rule.number no_rule c.sheet.ensures low) (found_number c.args.found c.in-Rule.number _ c.in-Rule.is e)

pub returns-in-Rule-clause-depth : goal.returns-in-Rule-clause-depth
returns-in-Rule-clause-depth c =
    let r = c.args.rules.now in
    let rule = get_or c.sheet.result.now.rules.now c.in-Rule.number no_rule in
    let low = found_low c.args.found c.in-Rule.number _ c.in-Rule.is c.requires.found in
    rule_in_sheet (told r).sheet c.in-Rule.number (see.rule rule) (rule_got (told r).sheet c.sheet.result.now c.in-Rule.number no_rule c.sheet.ensures low)
