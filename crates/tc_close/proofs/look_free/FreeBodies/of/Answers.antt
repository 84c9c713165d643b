use Rattle.std.proofs.Common.{◌+◌, [], ◌∷◌, List, Bool, length, get_or, slice_get, length-append, ap, ◌∙◌, sym}
use Rattle.tc_model.specs.Sheets.{Sheet}
use Rattle.tc_model.specs.Views as see
use Rattle.tc_rules.specs.RulesView.{RulesView}
use Rattle.tc_rows.specs.Triples.{sheet}
use Rattle.tc_beh.proofs.Meant.{no_rule}
use Rattle.tc_beh.proofs.RunLaws.{rule_read, rule_body_got}
use Rattle.tc_close.proofs.LookFree.{rules_next}
use Rattle.tc_close.proofs.look_free.FreeBodies.of.Goals as goal

pub loop-rule-preserved : goal.loop-rule-preserved
loop-rule-preserved c =
    let i = c.loop-rule.rule-index in
    let free = c.loop-rule.free.items in
    let f = c.are_free.result in
    let calls = c.are_named_free-calls.result in
    let rule = get_or c.sheet-2.result.now.rules.now i no_rule in
    record {
      count = ap length c.in_ok-push.ensures.items ∙ (length-append free (f ∷ []) ∙ ap (λ n. n + 1) c.loop-rule.invariant.count);
      rules = λ x n is at.
          let told_sheet = c.sheet-2.ensures ∙ ap (λ (v : RulesView). v.sheet) is.told in
          rules_next calls (sheet x) free f i (see.body rule.body.now) c.loop-rule.invariant.count (λ m h. c.loop-rule.invariant.rules x m is h)
          (rule_body_got (sheet x) i (see.rule rule) (rule_read (sheet x) c.sheet-2.result.now i no_rule told_sheet c.loop-rule-test.true))
          c.are_free.ensures n (ap (λ (l : List Bool). slice_get l n) (sym c.in_ok-push.ensures.items) ∙ at);
    }

pub returns : goal.returns
returns c = λ x is. record {
  calls = λ e n b at. c.are_named_free-calls.ensures e n b (ap (λ (s : Sheet). slice_get s.named n) (c.sheet.ensures ∙ ap (λ (v : RulesView). v.sheet) is.told) ∙ at);
  eaches = λ e. c.are_eaches_free-eaches.ensures e x is;
  rules = λ n at. c.loop-rule.invariant.rules x n is at;
}
