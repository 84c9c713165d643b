use Rattle.std.proofs.Common.{◌≡◌, ◌≤◌, ◌<◌, ◌∙◌, sym, ap, subst, List}
use Rattle.tc_base.specs.declared.limits.TheConstants.{MOST_SYMBOLS}
use Rattle.tc_model.specs.Grammars.{Grammar}
use Rattle.tc_model.specs.Sheets.{Sheet}
use Rattle.tc_model.specs.States.{input, output}
use Rattle.tc_model.specs.Symbols.{Mention, symbols_of, symbol_count}
use Rattle.tc_model.specs.Views as see
use Rattle.tc_read.proofs.Exits.{err_is}
use Rattle.tc_decide.specs.Checking.{by_input, by_output, by_sheet}
use Rattle.tc_decide.specs.Limits.{sheet_symbols}
use Rattle.tc_decide.proofs.MachineLimits.{cause_on, small_is}
use Rattle.tc_decide.proofs.machine.alphabet_of.Goals as goal

-- the symbols of the grammars that were read
same_symbols : {g h i o : Grammar} (s : Sheet) → g ≡ i → h ≡ o → symbols_of g h s ≡ symbols_of i o s
same_symbols {g} {h} {i} {o} s p q = ap (λ (w : Grammar). symbols_of w h s) p ∙ ap (λ (w : Grammar). symbols_of i w s) q

pub returns-in_err-input-clause-err : goal.returns-in_err-input-clause-err
returns-in_err-input-clause-err c =
    err_is c.from_residual.result _ _ c.from_residual.ensures.1 (λ i o read_in read_out within_in within_out.
    cause_on _ (λ kind number p. by_input p) (c.in_err-input.ensures.err input i read_in))

pub returns-in_err-output-clause-err : goal.returns-in_err-output-clause-err
returns-in_err-output-clause-err c =
    err_is c.from_residual-in_err-output.result _ _ c.from_residual-in_err-output.ensures.1 (λ i o read_in read_out within_in within_out.
    cause_on _ (λ kind number p. by_output within_in p) (c.in_err-output.ensures.err_output output o read_out))

pub returns-in-Ok-clause-stands : goal.returns-in-Ok-clause-stands
returns-in-Ok-clause-stands c = λ i o read_in read_out.
    c.in-Ok.ensures.stands ∙ same_symbols (see.sheet c.args.sheet.now) (small_is i _ _ c.in_ok-input.ensures.ok read_in).0 (small_is o _ _ c.in_ok-output.ensures.ok read_out).0

pub returns-in-Ok-clause-few : goal.returns-in-Ok-clause-few
returns-in-Ok-clause-few c = subst (λ (w : List Mention). symbol_count w ≤ MOST_SYMBOLS) (sym c.in-Ok.ensures.stands) c.in-Ok.ensures.few

pub returns-in-Err-TooManySymbols-clause-err : goal.returns-in-Err-TooManySymbols-clause-err
returns-in-Err-TooManySymbols-clause-err c = λ i o read_in read_out within_in within_out.
    let many = c.in-Err-TooManySymbols.ensures.many c.in-Err-TooManySymbols.field-0-is in
    let same = same_symbols (see.sheet c.args.sheet.now) (small_is i _ _ c.in_ok-input.ensures.ok read_in).0 (small_is o _ _ c.in_ok-output.ensures.ok read_out).0 in
    by_sheet within_in within_out (sheet_symbols (subst (λ (w : List Mention). MOST_SYMBOLS < symbol_count w) same many))
