use Rattle.std.proofs.Common.{◌+◌, [], ◌∷◌, List, length, get_or, slice_get, length-append, ap, ◌∙◌, sym, subst}
use Rattle.tc_model.specs.Views as see
use Rattle.tc_rules.specs.Kept.{told}
use Rattle.tc_rules.specs.RulesView.{RulesView}
use Rattle.tc_rows.specs.Triples.{sheet}
use Rattle.tc_beh.specs.Heights.{depth_in, deepest_rule}
use Rattle.tc_beh.specs.Runs.{AreRuns}
use Rattle.tc_beh.proofs.Deepest.{rule_in_rules}
use Rattle.tc_beh.proofs.Meant.{no_rule, rule_part_at}
use Rattle.tc_beh.proofs.OpenLaws.{beside_then, open_on}
use Rattle.tc_beh.proofs.Passing.{if_some_map}
use Rattle.tc_beh.proofs.RunLaws.{rule_read, rule_body_got, runs_pushed}
use Rattle.tc_beh.proofs.runs.read_runs.Goals as goal

pub run_of-run-requires-clause-part : goal.run_of-run-requires-clause-part
run_of-run-requires-clause-part c =
    let (x, ok) = c.requires.place in
    let r = c.args.place.now.rules.now in
    let i = c.loop-rule.rule-index in
    rule_part_at r x ok.rules i (get_or c.sheet.result.now.rules.now i no_rule) (rule_read (told r).sheet c.sheet.result.now i no_rule c.sheet.ensures c.loop-rule-test.true)

pub run_of-run-requires-clause-sets : goal.run_of-run-requires-clause-sets
run_of-run-requires-clause-sets c =
    let p = c.args.place.now in
    let rules = (told p.rules.now).sheet.rules in
    let i = c.loop-rule.rule-index in
    open_on p (depth_in (see.body (get_or c.sheet.result.now.rules.now i no_rule).body.now)) (deepest_rule rules) c.args.sets.now c.loop-rule.sets c.requires.sets c.loop-rule.invariant.same
    (rule_in_rules rules i (see.rule (get_or c.sheet.result.now.rules.now i no_rule)) (rule_read (told p.rules.now).sheet c.sheet.result.now i no_rule c.sheet.ensures c.loop-rule-test.true))

pub returns-in_default-clause-same : goal.returns-in_default-clause-same
returns-in_default-clause-same c = beside_then c.args.place.now.output.now c.args.place.now.outputs.now c.args.sets.now c.loop-rule.sets c.run_of-run.new.sets c.loop-rule.invariant.same c.run_of-run.ensures.same

pub returns-in_default-clause-runs : goal.returns-in_default-clause-runs
returns-in_default-clause-runs c = λ x ok n r e. c.loop-rule.invariant.known x ok n r (sym (ap (λ (l : List _). slice_get l n) c.in_default.ensures.items) ∙ e)

pub loop-rule-preserved : goal.loop-rule-preserved
loop-rule-preserved c =
    let i = c.loop-rule.rule-index in
    let rs = c.loop-rule.runs.items in
    let o = c.run_of-run.result in
    let rule = get_or c.sheet.result.now.rules.now i no_rule in
    let so_far = c.loop-rule.invariant in
    record {
      same = beside_then c.args.place.now.output.now c.args.place.now.outputs.now c.args.sets.now c.loop-rule.sets c.run_of-run.new.sets so_far.same c.run_of-run.ensures.same;
      count = ap length c.in-Ok.ensures.items ∙ (length-append rs (o ∷ []) ∙ ap (λ n. n + 1) so_far.count);
      known = λ x ok.
          let told_sheet = c.sheet.ensures ∙ ap (λ (v : RulesView). v.sheet) ok.rules.told in
          subst (AreRuns x) (sym c.in-Ok.ensures.items)
          (runs_pushed x rs o i (see.body rule.body.now) (so_far.known x ok) so_far.count (rule_body_got (sheet x) i (see.rule rule) (rule_read (sheet x) c.sheet.result.now i no_rule told_sheet c.loop-rule-test.true))
          (if_some_map o _ _ (λ r h. h x ok) c.run_of-run.ensures.run));
    }
