use Rattle.std.proofs.Common.{◌<◌, ◌≤◌, Err, ap, subst}
use Rattle.tc_auto.specs.Stands.{Stands}
use Rattle.tc_base.specs.declared.limits.TheConstants.{MOST_INPUT_STATES}
use Rattle.tc_model.specs.Grammars.{Grammar}
use Rattle.tc_model.specs.States.{input, state_count}
use Rattle.tc_model.specs.Views as see
use Rattle.tc_read.proofs.Exits.{err_is}
use Rattle.tc_decide.specs.Limits.{passes_states}
use Rattle.tc_decide.proofs.MachineLimits.{small_is, within, few_states, many_states}
use Rattle.tc_decide.proofs.machine.input_automaton.Goals as goal

pub returns-in_err-grammar-clause-err : goal.returns-in_err-grammar-clause-err
returns-in_err-grammar-clause-err c = err_is c.from_residual.result _ _ c.from_residual.ensures.1 (λ x read. c.in_err-grammar.ensures.err input x read)

pub returns-in-Ok-clause-stands : goal.returns-in-Ok-clause-stands
returns-in-Ok-clause-stands c = λ x read.
    let small = small_is x _ _ c.in_ok-grammar.ensures.ok read in
    subst (λ (g : Grammar). Stands input g c.in-Ok.auto) small.0 c.in-Ok.ensures.stands

pub returns-in-Ok-clause-within : goal.returns-in-Ok-clause-within
returns-in-Ok-clause-within c = λ x read.
    let small = small_is x _ _ c.in_ok-grammar.ensures.ok read in
    let states = within MOST_INPUT_STATES (state_count (see.grammar c.in_ok-grammar.grammar.now) input) (λ l. let e = c.in-Ok.ensures.told l in absurd (cc)) in
    record { counts = small.1; states = few_states x input MOST_INPUT_STATES (subst (λ (g : Grammar). state_count g input ≤ MOST_INPUT_STATES) small.0 states) }

pub returns-in-Err-TooManyStates-clause-err : goal.returns-in-Err-TooManyStates-clause-err
returns-in-Err-TooManyStates-clause-err c = λ x read.
    let small = small_is x _ _ c.in_ok-grammar.ensures.ok read in
    let over = c.in-Err-TooManyStates.ensures.too_many (ap Err c.in-Err-TooManyStates.field-0-is) in
    passes_states small.1 (many_states x input MOST_INPUT_STATES (subst (λ (g : Grammar). MOST_INPUT_STATES < state_count g input) small.0 over))
