use Rattle.std.proofs.Common.{◌≡◌, ◌<◌, ◌∙◌, OnOk, IfErr, subst, List}
use Rattle.std.proofs.lemmas.Result.{IfOk-weaker}
use Rattle.tc_alpha.specs.declared.alphabet.AlphaFault.TheVariants.{TooManySymbols}
use Rattle.tc_base.specs.declared.limits.TheConstants.{MOST_SYMBOLS}
use Rattle.tc_model.specs.Symbols.{Mention, symbol_count}
use Rattle.tc_model.specs.Views as see
use Rattle.tc_decide.specs.Limits.{AreFew}
use Rattle.tc_decide.proofs.Nothing.{schema_beside}
use Rattle.tc_decide.proofs.validating.grammar_alphabet.Goals as goal

pub returns-clause-stands : goal.returns-clause-stands
returns-clause-stands c =
    IfOk-weaker c.of.result _ _ (λ a e. e ∙ schema_beside (see.grammar c.args.grammar.now) _ _ c.no_schema-nothing.ensures c.no_rules-sheet.ensures) c.of.ensures.stands

pub returns-clause-few : goal.returns-clause-few
returns-clause-few c =
    subst (λ (w : List Mention). OnOk c.of.result (AreFew w)) (schema_beside (see.grammar c.args.grammar.now) _ _ c.no_schema-nothing.ensures c.no_rules-sheet.ensures) c.of.ensures.few

pub returns-clause-many : goal.returns-clause-many
returns-clause-many c =
    subst (λ (w : List Mention). IfErr c.of.result (λ e. e ≡ TooManySymbols → MOST_SYMBOLS < symbol_count w)) (schema_beside (see.grammar c.args.grammar.now) _ _ c.no_schema-nothing.ensures c.no_rules-sheet.ensures) c.of.ensures.many
