use Rattle.std.proofs.Common.{◌≡◌, ◌≤◌, ◌<◌, ◌∙◌, sym, ap, subst, List}
use Rattle.tc_base.specs.declared.limits.TheConstants.{MOST_SYMBOLS}
use Rattle.tc_model.specs.Grammars.{Grammar}
use Rattle.tc_model.specs.States.{input}
use Rattle.tc_model.specs.Sheets.{Sheet}
use Rattle.tc_model.specs.Symbols.{Mention, symbol_count, symbols_of}
use Rattle.tc_model.specs.Views as see
use Rattle.tc_read.proofs.Exits.{err_is}
use Rattle.tc_decide.specs.Comparing.{by_first, by_second, by_symbols, symbols_of_both}
use Rattle.tc_decide.specs.Nothing.{no_rules}
use Rattle.tc_decide.proofs.Compared.{symbols_beside}
use Rattle.tc_decide.proofs.MachineLimits.{cause_on, small_is}
use Rattle.tc_decide.proofs.comparing.symbols_of.Goals as goal

-- the symbols of the grammars that were read
same_symbols : {g h i o : Grammar} → g ≡ i → h ≡ o → symbols_of_both g h ≡ symbols_of_both i o
same_symbols {g} {h} {i} {o} p q = ap (λ (w : Grammar). symbols_of_both w h) p ∙ ap (λ (w : Grammar). symbols_of_both i w) q

-- beside a stylesheet that mentions nothing
both_symbols : (g h : Grammar) (s : Sheet) → s ≡ no_rules → symbols_of g h s ≡ symbols_of_both g h
both_symbols g h s e = ap (λ (w : Sheet). symbols_of g h w) e ∙ symbols_beside g h

pub returns-in_err-first-clause-err : goal.returns-in_err-first-clause-err
returns-in_err-first-clause-err c =
    err_is c.from_residual.result _ _ c.from_residual.ensures.1 (λ x y read_one read_other one other. cause_on _ (λ kind number p. by_first p) (c.in_err-first.ensures.err input x read_one))

pub returns-in_err-second-clause-err : goal.returns-in_err-second-clause-err
returns-in_err-second-clause-err c =
    err_is c.from_residual-in_err-second.result _ _ c.from_residual-in_err-second.ensures.1
    (λ x y read_one read_other one other. cause_on _ (λ kind number p. by_second one p) (c.in_err-second.ensures.err input y read_other))

pub returns-in-Ok-clause-stands : goal.returns-in-Ok-clause-stands
returns-in-Ok-clause-stands c = λ x y read_one read_other.
    c.in-Ok.ensures.stands ∙ (both_symbols (see.grammar c.in_ok-first.first.now) (see.grammar c.in_ok-second.second.now) _ c.no_rules-nothing.ensures ∙ same_symbols (small_is x _ _ c.in_ok-first.ensures.ok read_one).0 (small_is y _ _ c.in_ok-second.ensures.ok read_other).0)

pub returns-in-Ok-clause-few : goal.returns-in-Ok-clause-few
returns-in-Ok-clause-few c = subst (λ (w : List Mention). symbol_count w ≤ MOST_SYMBOLS) (sym c.in-Ok.ensures.stands) c.in-Ok.ensures.few

pub returns-in-Err-TooManySymbols-clause-err : goal.returns-in-Err-TooManySymbols-clause-err
returns-in-Err-TooManySymbols-clause-err c = λ x y read_one read_other one other.
    let many = c.in-Err-TooManySymbols.ensures.many c.in-Err-TooManySymbols.field-0-is in
    let same = both_symbols (see.grammar c.in_ok-first.first.now) (see.grammar c.in_ok-second.second.now) _ c.no_rules-nothing.ensures ∙ same_symbols (small_is x _ _ c.in_ok-first.ensures.ok read_one).0 (small_is y _ _ c.in_ok-second.ensures.ok read_other).0 in
    by_symbols one other (subst (λ (w : List Mention). MOST_SYMBOLS < symbol_count w) same many)
