use Rattle.std.proofs.Common.{◌≡◌, List, Option, None, Some, option_map, refl, ap, ◌∙◌, get_or}
use Rattle.tc_model.specs.Sheets.{CallFreeBody}
use Rattle.tc_rules.specs.Asked.{found}
use Rattle.tc_rules.specs.States.{Chosen, plain_of}
use Rattle.tc_run.specs.Running.{sheet_by}
use Rattle.tc_run.specs.Tasks.{built_in}
use Rattle.tc_model.specs.Views as see
use Rattle.tc_run.proofs.OnLeaves.{rule_bodies, whole_meant}
use Rattle.tc_run.proofs.Templates.{no_rule, found_low, found_number, rule_got, rule_part_at, rule_meant}
use Rattle.tc_run.proofs.visits.template_of.Goals as goal

-- where no rule fits, the built-in body is meant
none_meant : (bodies : List CallFreeBody) (p : CallFreeBody) (o : Option Chosen) → option_map (λ w. w.number) o ≡ None → plain_of bodies p o ≡ p
none_meant bodies p None e = refl
none_meant bodies p (Some w) e = cc

pub returns-in-BuiltIn-clause-part : goal.returns-in-BuiltIn-clause-part
returns-in-BuiltIn-clause-part c = c.requires.mode

pub returns-in-BuiltIn-clause-meant : goal.returns-in-BuiltIn-clause-meant
returns-in-BuiltIn-clause-meant c = λ bodies n o u e. none_meant bodies (built_in c.args.mode n) o (e ∙ ap found c.in-BuiltIn.is)

pub returns-in-Rule-clause-part : goal.returns-in-Rule-clause-part
returns-in-Rule-clause-part c =
    let r = c.args.runner.now in
    let rule = get_or c.sheet.result.now.rules.now c.in-Rule.number no_rule in
    let low = found_low c.args.found c.in-Rule.number _ c.in-Rule.is c.requires.found in
    let got = rule_got (sheet_by r) c.sheet.result.now c.in-Rule.number no_rule c.sheet.ensures low in
    let both = c.bodies_of.ensures in
    rule_bodies (sheet_by r) c.bodies_of.result rule.body both.whole (rule_part_at r c.requires.runner c.in-Rule.number rule got) (both.alike (sheet_by r) (see.rule rule) c.requires.leaves got refl)

pub returns-in-Rule-clause-meant : goal.returns-in-Rule-clause-meant
returns-in-Rule-clause-meant c = λ bodies n o u e.
    let r = c.args.runner.now in
    let rule = get_or c.sheet.result.now.rules.now c.in-Rule.number no_rule in
    let low = found_low c.args.found c.in-Rule.number _ c.in-Rule.is c.requires.found in
    let got = rule_got (sheet_by r) c.sheet.result.now c.in-Rule.number no_rule c.sheet.ensures low in
    whole_meant (sheet_by r).named n c.bodies_of.result rule.body _ c.bodies_of.ensures.whole (rule_meant r bodies u _ o c.in-Rule.number rule got (found_number c.args.found c.in-Rule.number _ c.in-Rule.is e))
