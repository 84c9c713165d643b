use Rattle.std.proofs.Common.{◌<◌, ◌+◌, subst}
use Rattle.tc_rules.specs.Asked.{letter, found}
use Rattle.tc_rules.specs.Jobs.{IsJob}
use Rattle.tc_rules.specs.Views.{mode_of}
use Rattle.tc_rules.specs.RulesView.{ancestor}
use Rattle.tc_run.specs.Running.{sheet_by, symbols_by, told_by}
use Rattle.tc_rules.specs.Tasks.{IsTaskOf}
use Rattle.tc_run.proofs.FoundLow.{rule_low}
use Rattle.tc_run.proofs.OnLeaves.{alone_part, whole_meant}
use Rattle.tc_run.proofs.Templates.{each_part_at, each_meant, mode_meant}
use Rattle.tc_run.proofs.visits.template_for.Goals as goal

pub returns-in-Each-clause-part : goal.returns-in-Each-clause-part
returns-in-Each-clause-part c =
    let r = c.args.runner.now in
    let low : c.in-Each.number < (sheet_by r).eaches = subst (IsJob (sheet_by r)) c.in-Each.is c.requires.job in
    let part = each_part_at r c.requires.met.runner c.in-Each.number c.each_body.result low c.each_body.ensures in
    alone_part (sheet_by r) c.alone.result c.each_body.result c.alone.ensures.whole c.alone.ensures.on_leaf part

pub returns-in-Each-clause-meant : goal.returns-in-Each-clause-meant
returns-in-Each-clause-meant c = λ bodies n k u t b.
    let r = c.args.runner.now in
    let task : IsTaskOf (sheet_by r) ((sheet_by r).modes + c.in-Each.number) k = subst (λ j. IsTaskOf (sheet_by r) (mode_of (sheet_by r).modes j) k) c.in-Each.is t in
    whole_meant (sheet_by r).named n c.alone.result c.each_body.result _ c.alone.ensures.whole
    (each_meant r c.requires.met.runner bodies c.in-Each.number c.each_body.result k (ancestor (told_by r) c.args.above) (letter c.args.kind c.args.marks) c.each_body.ensures task)

pub template_of-requires-clause-found : goal.template_of-requires-clause-found
template_of-requires-clause-found c =
    let r = c.args.runner.now in
    rule_low (sheet_by r).rules c.in-Mode.mode _ (found c.rule_for-found.result) (c.rule_for-found.ensures (symbols_by r) c.requires.met.runner c.requires.met.letter)

pub returns-in-Mode-clause-meant : goal.returns-in-Mode-clause-meant
returns-in-Mode-clause-meant c = λ bodies n k u t b.
    let r = c.args.runner.now in
    let low : c.in-Mode.mode < (sheet_by r).modes = subst (IsJob (sheet_by r)) c.in-Mode.is c.requires.job in
    let task : IsTaskOf (sheet_by r) c.in-Mode.mode k = subst (λ j. IsTaskOf (sheet_by r) (mode_of (sheet_by r).modes j) k) c.in-Mode.is t in
    mode_meant r bodies c.in-Mode.mode (found c.rule_for-found.result) c.template_of.result n k (ancestor (told_by r) c.args.above) (letter c.args.kind c.args.marks) low task
    (c.rule_for-found.ensures (symbols_by r) c.requires.met.runner c.requires.met.letter) b (λ o e. c.template_of.ensures.meant bodies n o u e)
