use Rattle.std.proofs.Common.{refl}
use Rattle.std.proofs.lemmas.Result.{IfOk-from_err}
use Rattle.tc_hedge.proofs.TableRows.{made_stands}
use Rattle.tc_hedge.proofs.hedge.Hedge.of.Goals as goal

pub returns-clause-stands : goal.returns-clause-stands
returns-clause-stands c = λ side x st input output sheet is which.
    made_stands side x input output sheet c.args.alphabet.now _ st is which c.count-symbols.ensures.number (c.in_ok-allowed.ensures.told side x st)

pub returns-clause-automaton : goal.returns-clause-automaton
returns-clause-automaton c = refl

pub returns-clause-symbols : goal.returns-clause-symbols
returns-clause-symbols c = c.count-symbols.ensures.number

pub returns-in_err-allowed-clause-automaton : goal.returns-in_err-allowed-clause-automaton
returns-in_err-allowed-clause-automaton c = IfOk-from_err c.from_residual.result _ c.from_residual.ensures.0

pub returns-in_err-allowed-clause-symbols : goal.returns-in_err-allowed-clause-symbols
returns-in_err-allowed-clause-symbols c = IfOk-from_err c.from_residual.result _ c.from_residual.ensures.0

pub returns-in_err-allowed-clause-stands : goal.returns-in_err-allowed-clause-stands
returns-in_err-allowed-clause-stands c = IfOk-from_err c.from_residual.result _ c.from_residual.ensures.0
