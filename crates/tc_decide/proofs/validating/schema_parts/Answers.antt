use Rattle.tc_read.proofs.Exits.{err_is}
use Rattle.tc_decide.specs.Validating.{passes_schema}
use Rattle.tc_decide.proofs.Judged.{is_parts}
use Rattle.tc_decide.proofs.MachineLimits.{cause_on}
use Rattle.tc_decide.proofs.validating.schema_parts.Goals as goal

pub returns-in_err-automaton-clause-err : goal.returns-in_err-automaton-clause-err
returns-in_err-automaton-clause-err c =
    err_is c.from_residual.result _ _ c.from_residual.ensures.1 (λ x read. cause_on _ (λ kind number p. passes_schema p) (c.in_err-automaton.ensures.err x read))

pub returns-in_err-alphabet-clause-err : goal.returns-in_err-alphabet-clause-err
returns-in_err-alphabet-clause-err c =
    err_is c.from_residual-in_err-alphabet.result _ _ c.from_residual-in_err-alphabet.ensures.1 (λ x read. c.in_err-alphabet.ensures.err x read (c.in_ok-automaton.ensures.within x read))

pub returns-clause-ok : goal.returns-clause-ok
returns-clause-ok c = λ x read.
    is_parts x c.args.schema.now c.requires.schema read (c.in_ok-automaton.ensures.within x read) _ _ (c.in_ok-automaton.ensures.stands x read) (c.in_ok-alphabet.ensures.stands x read) c.in_ok-alphabet.ensures.few
