use Rattle.std.proofs.Common.{◌≡◌, ◌+◌, ◌∙◌, arith, ap, if◌then◌else◌, sym}
use Rattle.tc_model.specs.SheetText.{eaches_in}
use Rattle.tc_sheet.specs.Views.{body}
use Rattle.tc_sheet.proofs.NumberLaws.{if_ok}
use Rattle.tc_sheet.proofs.numbering.eaches_with_rules.Goals as goal

pub returns-then-makes_rules-clause-ok : goal.returns-then-makes_rules-clause-ok
returns-then-makes_rules-clause-ok c =
    let count = eaches_in (body c.args.template.now.body.now) in
    if_ok c.eaches_in.result (λ n. n ≡ c.args.before + count) _ (λ n e. e ∙ ap (λ b. c.args.before + (if b then count else 0)) (sym c.if-makes_rules.true ∙ c.makes_rules.ensures)) c.eaches_in.ensures.ok

pub returns-then-makes_rules-clause-no : goal.returns-then-makes_rules-clause-no
returns-then-makes_rules-clause-no c = c.eaches_in.ensures.no

pub returns-else-makes_rules-clause-ok : goal.returns-else-makes_rules-clause-ok
returns-else-makes_rules-clause-ok c =
    let count = eaches_in (body c.args.template.now.body.now) in
    omega (arith, ap (λ b. if b then count else 0) (sym c.if-makes_rules.false ∙ c.makes_rules.ensures))
