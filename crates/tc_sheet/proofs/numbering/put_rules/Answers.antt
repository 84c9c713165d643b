use Rattle.std.proofs.Common.{◌++◌, ◌∙◌, ap, append-nil, map, sym}
use Rattle.std.proofs.lemmas.List.{take_all}
use Rattle.tc_model.specs.Views as see
use Rattle.tc_path.specs.Views.{alternative}
use Rattle.tc_sheet.specs.Numbers.{rule_from}
use Rattle.tc_sheet.proofs.numbering.put_rules.Goals as goal

pub loop-alternative-init : goal.loop-alternative-init
loop-alternative-init c = sym (append-nil (map see.rule c.args.rules.now.items))

pub returns-clause-ok : goal.returns-clause-ok
returns-clause-ok c =
    let from = rule_from c.args.mode (see.body c.args.body.now) in
    c.loop-alternative.invariant ∙ ap (λ z. map see.rule c.args.rules.now.items ++ map from (map alternative z)) (take_all c.loop-alternative.alternative-index c.args.template.now.alternatives.now c.loop-alternative-test.false)

pub returns-clause-no : goal.returns-clause-no
returns-clause-no c = tt
