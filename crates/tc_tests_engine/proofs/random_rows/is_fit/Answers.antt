use Rattle.std.proofs.Common.{List, sym, subst, ◌∙◌}
use Rattle.tc_model.specs.Symbols.{Mention}
use Rattle.tc_rules.specs.Kept.{IsRulesOf}
use Rattle.tc_rules.specs.declared.rules.Rules.{Rules}
use Rattle.tc_tests_engine.proofs.random_rows.is_fit.Goals as goal

pub run-requires-clause-rules : goal.run-requires-clause-rules
run-requires-clause-rules c =
    let (x, is) = c.requires.machine in
    let parts = is.parts in
    subst (λ (r : Rules). IsRulesOf c.alphabet.result.now r) (sym c.rules.ensures)
    (subst (λ (ms : List Mention). IsRulesOf ms c.args.machine.now.rules) (sym (c.alphabet.ensures ∙ parts.same_symbols)) parts.are_rules.rules)
