use Rattle.std.proofs.Common.{◌<◌, ◌∙◌, subst, sym, List}
use Rattle.tc_base.specs.declared.limits.TheConstants.{MOST_SYMBOLS}
use Rattle.tc_decide.specs.Limits.{AreFew, sheet_symbols}
use Rattle.tc_decide.proofs.Nothing.{sheet_beside}
use Rattle.tc_decide.proofs.running.sheet_alphabet.Goals as goal
use Rattle.tc_model.specs.Symbols.{Mention, symbol_count}
use Rattle.tc_model.specs.Views as see

pub returns-in-Ok-clause-stands : goal.returns-in-Ok-clause-stands
returns-in-Ok-clause-stands c = c.in-Ok.ensures.stands ∙ sheet_beside _ _ (see.sheet c.args.sheet.now) c.no_schema-nothing.ensures c.no_schema-nothing.ensures

pub returns-in-Ok-clause-few : goal.returns-in-Ok-clause-few
returns-in-Ok-clause-few c = subst (λ (w : List Mention). AreFew w) (sym c.in-Ok.ensures.stands) c.in-Ok.ensures.few

pub returns-in-Err-TooManySymbols-clause-err : goal.returns-in-Err-TooManySymbols-clause-err
returns-in-Err-TooManySymbols-clause-err c =
    let many = c.in-Err-TooManySymbols.ensures.many c.in-Err-TooManySymbols.field-0-is in
    sheet_symbols (subst (λ (w : List Mention). MOST_SYMBOLS < symbol_count w) (sheet_beside _ _ (see.sheet c.args.sheet.now) c.no_schema-nothing.ensures c.no_schema-nothing.ensures) many)
