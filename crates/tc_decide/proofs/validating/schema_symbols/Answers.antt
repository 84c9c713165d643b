use Rattle.std.proofs.Common.{◌<◌, ◌∙◌, sym, ap, subst, List}
use Rattle.tc_base.specs.declared.limits.TheConstants.{MOST_SYMBOLS}
use Rattle.tc_model.specs.Grammars.{Grammar}
use Rattle.tc_model.specs.States.{input}
use Rattle.tc_model.specs.Symbols.{Mention, symbol_count}
use Rattle.tc_read.proofs.Exits.{err_is}
use Rattle.tc_decide.specs.Validating.{passes_schema, passes_symbols}
use Rattle.tc_decide.specs.Limits.{AreFew, symbols_of_schema}
use Rattle.tc_decide.proofs.MachineLimits.{cause_on, small_is}
use Rattle.tc_decide.proofs.validating.schema_symbols.Goals as goal

pub returns-in_err-grammar-clause-err : goal.returns-in_err-grammar-clause-err
returns-in_err-grammar-clause-err c =
    err_is c.from_residual.result _ _ c.from_residual.ensures.1 (λ x read within. cause_on _ (λ kind number p. passes_schema p) (c.in_err-grammar.ensures.err input x read))

pub returns-in-Ok-clause-stands : goal.returns-in-Ok-clause-stands
returns-in-Ok-clause-stands c = λ x read. c.in-Ok.ensures.stands ∙ ap (λ (w : Grammar). symbols_of_schema w) (small_is x _ _ c.in_ok-grammar.ensures.ok read).0

pub returns-in-Ok-clause-few : goal.returns-in-Ok-clause-few
returns-in-Ok-clause-few c = subst (λ (w : List Mention). AreFew w) (sym c.in-Ok.ensures.stands) c.in-Ok.ensures.few

pub returns-in-Err-TooManySymbols-clause-err : goal.returns-in-Err-TooManySymbols-clause-err
returns-in-Err-TooManySymbols-clause-err c = λ x read within.
    let many = c.in-Err-TooManySymbols.ensures.many c.in-Err-TooManySymbols.field-0-is in
    passes_symbols within (subst (λ (w : Grammar). MOST_SYMBOLS < symbol_count (symbols_of_schema w)) (small_is x _ _ c.in_ok-grammar.ensures.ok read).0 many)
