use Rattle.std.proofs.Common.{◌≡◌, ◌<◌, ◌+◌, subst, sym}
use Rattle.tc_model.specs.Sheets.{Sheet}
use Rattle.tc_model.specs.Letters.{IsLetter}
use Rattle.tc_model.specs.RuleStates.{IsRuleOf, fits_below}
use Rattle.tc_model.specs.Numberings.{predicates_of}
use Rattle.tc_rules.specs.Asked.{found}
use Rattle.tc_rules.specs.Jobs.{IsJob}
use Rattle.tc_rules.specs.Kept.{told}
use Rattle.tc_rules.specs.KnownRules.{AreKnown}
use Rattle.tc_rules.specs.RulesView.{RulesView, ancestor}
use Rattle.tc_rules.specs.Tasks.{IsTaskOf}
use Rattle.tc_rules.specs.Views.{mode_of}
use Rattle.tc_rules.specs.declared.rules.Found.{Found}
use Rattle.tc_rows.specs.Triples.{sheet}
use Rattle.tc_beh.specs.Above.{letter_of}
use Rattle.tc_beh.proofs.Before.{one_rule_meant, one_each_meant}
use Rattle.tc_beh.proofs.Hitting.{is_job, told_task}
use Rattle.tc_beh.proofs.Marking.{predicates_told}
use Rattle.tc_beh.proofs.Meant.{sheet_told}
use Rattle.tc_beh.proofs.templates.are_alike.Goals as goal

pub returns-in-Each-clause-meant : goal.returns-in-Each-clause-meant
returns-in-Each-clause-meant c = λ e x g is lx known at.
    let r = c.args.rules.now in
    let u = told_task x r is c.args.state g at c.mode_of.result c.mode_of.ensures.mode in
    let task : IsTaskOf (sheet x) ((sheet x).modes + c.in-Each.field-0) g.task = subst (λ j. IsTaskOf (sheet x) (mode_of (sheet x).modes j) g.task) c.in-Each.is u in
    one_each_meant x g.task (ancestor x.rules c.args.first) (ancestor x.rules c.args.second) (letter_of c.args.letter) c.in-Each.field-0 task

pub rule_for-one-requires-clause-mode : goal.rule_for-one-requires-clause-mode
rule_for-one-requires-clause-mode c =
    let r = c.args.rules.now in
    let (x, is) = c.requires.letter in
    subst (IsJob (told r).sheet) c.in-Mode.is (is_job x r is c.args.state c.mode_of.result c.requires.state c.mode_of.ensures.job)

pub rule_for-other-requires-clause-mode : goal.rule_for-other-requires-clause-mode
rule_for-other-requires-clause-mode c =
    let r = c.args.rules.now in
    let (x, is) = c.requires.letter in
    subst (IsJob (told r).sheet) c.in-Mode.is (is_job x r is c.args.state c.mode_of.result c.requires.state c.mode_of.ensures.job)

pub returns-in-Mode-clause-known : goal.returns-in-Mode-clause-known
returns-in-Mode-clause-known c = λ x is known.
    let r = c.args.rules.now in
    let here = subst (λ (v : RulesView). AreKnown x.symbols v c.args.known.now) (sym is.told) known in
    subst (λ (v : RulesView). AreKnown x.symbols v c.rule_for-other.new.self) is.told (c.rule_for-other.ensures.known x.symbols is.rules (c.rule_for-one.ensures.known x.symbols is.rules here))

pub returns-in-Mode-clause-meant : goal.returns-in-Mode-clause-meant
returns-in-Mode-clause-meant c = λ e x g is lx known at.
    let r = c.args.rules.now in
    let l = letter_of c.args.letter in
    let mode = c.in-Mode.mode in
    let u = told_task x r is c.args.state g at c.mode_of.result c.mode_of.ensures.mode in
    let job = is_job x r is c.args.state c.mode_of.result c.requires.state c.mode_of.ensures.job in
    let low : mode < (sheet x).modes = subst (λ (s : Sheet). mode < s.modes) (sheet_told r x is) (subst (IsJob (told r).sheet) c.in-Mode.is job) in
    let task : IsTaskOf (sheet x) mode g.task = subst (λ j. IsTaskOf (sheet x) (mode_of (sheet x).modes j) g.task) c.in-Mode.is u in
    let is_letter = subst (λ ps. IsLetter x.symbols ps l) (sym (predicates_told x r is)) lx in
    let here = subst (λ (v : RulesView). AreKnown x.symbols v c.args.known.now) (sym is.told) known in
    let one = c.rule_for-one.result in
    let other = c.rule_for-other.result in
    let first = subst (λ (t : RulesView). IsRuleOf t.sheet.rules mode (fits_below x.symbols (predicates_of t.sheet) (ancestor t c.args.first) l) (found one)) is.told (c.rule_for-one.ensures.rule x.symbols is.rules here is_letter) in
    let second = subst (λ (t : RulesView). IsRuleOf t.sheet.rules mode (fits_below x.symbols (predicates_of t.sheet) (ancestor t c.args.second) l) (found other)) is.told
    (c.rule_for-other.ensures.rule x.symbols is.rules (c.rule_for-one.ensures.known x.symbols is.rules here) is_letter) in
    let same : one ≡ other = c.is_same.ensures e in
    one_rule_meant x g.task (ancestor x.rules c.args.first) (ancestor x.rules c.args.second) l mode (found one) low task first
    (subst (λ (f : Found). IsRuleOf (sheet x).rules mode (fits_below x.symbols (predicates_of (sheet x)) (ancestor x.rules c.args.second) l) (found f)) (sym same) second)
