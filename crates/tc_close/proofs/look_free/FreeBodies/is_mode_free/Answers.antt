use Rattle.std.proofs.Common.{◌≡◌, inl, inr, subst, arith}
use Rattle.std.proofs.lemmas.Bool.{cases_lt}
use Rattle.tc_model.specs.Letters.{of_symbol}
use Rattle.tc_model.specs.Numberings.{predicates_of}
use Rattle.tc_model.specs.RuleStates.{IsRuleOf, fits_below}
use Rattle.tc_rules.specs.Asked.{found}
use Rattle.tc_rules.specs.RulesView.{RulesView, ancestor}
use Rattle.tc_rules.specs.States.{built_in_at}
use Rattle.tc_rows.specs.Triples.{predicates}
use Rattle.tc_beh.proofs.Finding.{letter_told}
use Rattle.tc_close.specs.LookFree.{IsFreeAbove, plain_letter}
use Rattle.tc_close.proofs.LookFree.{found_free}
use Rattle.tc_close.proofs.look_free.FreeBodies.is_mode_free.Goals as goal

pub loop-ancestor-preserved : goal.loop-ancestor-preserved
loop-ancestor-preserved c = λ x q is are l within.
    let here = c.loop-ancestor.ancestor in
    elim (cases_lt q here) [
      | inl b ↦ c.loop-ancestor.invariant x q is are l b
      | inr b ↦
          let w = plain_letter c.args.symbol in
          let same : here ≡ q = omega (arith, within, b) in
          let f = found c.rule_for-found.result in
          let rule = subst (λ (v : RulesView). IsRuleOf v.sheet.rules c.args.mode (fits_below x.symbols (predicates_of v.sheet) (ancestor v here) w) f) is.told (c.rule_for-found.ensures x.symbols is.rules (letter_told x c.args.rules.now is w l)) in
          subst (λ n. IsFreeAbove x c.args.symbol c.args.mode n) same
          (found_free x c.args.self.now is.triple are c.args.mode (built_in_at c.args.mode (of_symbol c.args.symbol)) (fits_below x.symbols (predicates x) (ancestor x.rules here) w) tt f rule (c.is_found_free.ensures c.if-not-is_found_free.false))
    ]
