use Rattle.std.proofs.Common.{◌<◌, ◌+◌, subst, sym, arith}
use Rattle.tc_model.specs.Sheets.{Sheet}
use Rattle.tc_model.specs.RuleStates.{IsRuleOf, fits_below}
use Rattle.tc_model.specs.Numberings.{predicates_of}
use Rattle.tc_rules.specs.Asked.{found}
use Rattle.tc_rules.specs.Jobs.{IsJob}
use Rattle.tc_rules.specs.Kept.{told}
use Rattle.tc_rules.specs.Views.{mode_of}
use Rattle.tc_rules.specs.RulesView.{RulesView, ancestor}
use Rattle.tc_rules.specs.States.{built_in_at}
use Rattle.tc_rules.specs.Tasks.{IsTaskOf}
use Rattle.tc_rows.specs.Triples.{sheet}
use Rattle.tc_beh.specs.Above.{letter_of}
use Rattle.tc_rules.specs.KnownRules.{AreKnown}
use Rattle.tc_beh.proofs.Deepest.{each_body_low}
use Rattle.tc_beh.proofs.Meant.{each_part_at, each_meant, mode_meant, sheet_told, rule_low}
use Rattle.tc_beh.proofs.Marking.{predicates_told}
use Rattle.tc_model.specs.Letters.{IsLetter}
use Rattle.tc_beh.proofs.Hitting.{is_job, told_task}
use Rattle.tc_beh.proofs.templates.template_at.Goals as goal

pub returns-in-Each-clause-part : goal.returns-in-Each-clause-part
returns-in-Each-clause-part c =
    let r = c.args.rules.now in
    let (x, is, lx, known) = c.requires.letter in
    let job = is_job x r is c.args.state c.mode_of.result c.requires.state c.mode_of.ensures.job in
    let low : c.in-Each.number < (told r).sheet.eaches = subst (IsJob (told r).sheet) c.in-Each.is job in
    each_part_at r x is c.in-Each.number c.each_body.result low c.each_body.ensures

pub returns-in-Each-clause-meant : goal.returns-in-Each-clause-meant
returns-in-Each-clause-meant c = λ x g is lx known at.
    let r = c.args.rules.now in
    let k = g.task in
    let u = told_task x r is c.args.state g at c.mode_of.result c.mode_of.ensures.mode in
    let task : IsTaskOf (sheet x) ((sheet x).modes + c.in-Each.number) k = subst (λ j. IsTaskOf (sheet x) (mode_of (sheet x).modes j) k) c.in-Each.is u in
    each_meant r x is c.in-Each.number c.each_body.result k (ancestor x.rules c.args.ancestor) (letter_of c.args.letter) c.each_body.ensures task

pub template_of-requires-clause-found : goal.template_of-requires-clause-found
template_of-requires-clause-found c =
    let r = c.args.rules.now in
    let (x, is, lx, known) = c.requires.letter in
    let l = letter_of c.args.letter in
    let is_letter = subst (λ ps. IsLetter x.symbols ps l) (sym (predicates_told x r is)) lx in
    let here = subst (λ (v : RulesView). AreKnown x.symbols v c.args.known.now) (sym is.told) known in
    rule_low (told r).sheet.rules c.in-Mode.mode (fits_below x.symbols (predicates_of (told r).sheet) (ancestor (told r) c.args.ancestor) l) (found c.rule_for-found.result) (c.rule_for-found.ensures.rule x.symbols is.rules here is_letter)

pub returns-in-Mode-clause-meant : goal.returns-in-Mode-clause-meant
returns-in-Mode-clause-meant c = λ x g is lx known at.
    let r = c.args.rules.now in
    let k = g.task in
    let u = told_task x r is c.args.state g at c.mode_of.result c.mode_of.ensures.mode in
    let l = letter_of c.args.letter in
    let job = is_job x r is c.args.state c.mode_of.result c.requires.state c.mode_of.ensures.job in
    let low : c.in-Mode.mode < (sheet x).modes = subst (λ (s : Sheet). c.in-Mode.mode < s.modes) (sheet_told r x is) (subst (IsJob (told r).sheet) c.in-Mode.is job) in
    let task : IsTaskOf (sheet x) c.in-Mode.mode k = subst (λ j. IsTaskOf (sheet x) (mode_of (sheet x).modes j) k) c.in-Mode.is u in
    let is_letter = subst (λ ps. IsLetter x.symbols ps l) (sym (predicates_told x r is)) lx in
    let here = subst (λ (v : RulesView). AreKnown x.symbols v c.args.known.now) (sym is.told) known in
    let ruled = subst (λ (t : RulesView). IsRuleOf t.sheet.rules c.in-Mode.mode (fits_below x.symbols (predicates_of t.sheet) (ancestor t c.args.ancestor) l) (found c.rule_for-found.result)) is.told (c.rule_for-found.ensures.rule x.symbols is.rules here is_letter) in
    mode_meant r x is c.in-Mode.mode (found c.rule_for-found.result) c.template_of.result (λ m. built_in_at m l.kind) k (ancestor x.rules c.args.ancestor) l low task ruled
    (λ o e. c.template_of.ensures.meant x (λ m. built_in_at m l.kind) o is e)

pub returns-in-Each-clause-depth : goal.returns-in-Each-clause-depth
returns-in-Each-clause-depth c =
    let r = c.args.rules.now in
    let (x, is, lx, known) = c.requires.letter in
    let job = is_job x r is c.args.state c.mode_of.result c.requires.state c.mode_of.ensures.job in
    let low : c.in-Each.number < (told r).sheet.eaches = subst (IsJob (told r).sheet) c.in-Each.is job in
    each_body_low r x is c.in-Each.number c.each_body.result low c.each_body.ensures

pub returns-in-Mode-clause-known : goal.returns-in-Mode-clause-known
returns-in-Mode-clause-known c = λ x is lx known.
    let r = c.args.rules.now in
    let here = subst (λ (v : RulesView). AreKnown x.symbols v c.args.known.now) (sym is.told) known in
    subst (λ (v : RulesView). AreKnown x.symbols v c.rule_for-found.new.self) is.told (c.rule_for-found.ensures.known x.symbols is.rules here)

pub each_body-requires : goal.each_body-requires
each_body-requires c =
    let r = c.args.rules.now in
    let (x, is, lx, known) = c.requires.letter in
    let count = is.rules.tells.all_eaches in
    let low : c.in-Each.number < (told r).sheet.eaches = subst (IsJob (told r).sheet) c.in-Each.is (is_job x r is c.args.state c.mode_of.result c.requires.state c.mode_of.ensures.job) in
    omega (arith, low, count)

pub rule_for-found-requires-clause-mode : goal.rule_for-found-requires-clause-mode
rule_for-found-requires-clause-mode c =
    let r = c.args.rules.now in
    let (x, is, lx, known) = c.requires.letter in
    subst (IsJob (told r).sheet) c.in-Mode.is (is_job x r is c.args.state c.mode_of.result c.requires.state c.mode_of.ensures.job)

pub template_of-requires-clause-mode : goal.template_of-requires-clause-mode
template_of-requires-clause-mode c =
    let r = c.args.rules.now in
    let (x, is, lx, known) = c.requires.letter in
    subst (IsJob (told r).sheet) c.in-Mode.is (is_job x r is c.args.state c.mode_of.result c.requires.state c.mode_of.ensures.job)
