use Rattle.std.proofs.Common.{subst}
use Rattle.tc_model.specs.Views as see
use Rattle.tc_rules.specs.Faults.{IsCause}
use Rattle.tc_decide.specs.Limits.{sheet_predicates, sheet_ancestors, sheet_selects}
use Rattle.tc_decide.proofs.machine.rules_of.Goals as goal

pub returns-in-Err-TooManyPredicates-clause-err : goal.returns-in-Err-TooManyPredicates-clause-err
returns-in-Err-TooManyPredicates-clause-err c = λ few.
    let cause = subst (IsCause c.args.alphabet.now (see.sheet c.args.sheet.now)) c.in-Err-TooManyPredicates.field-0-is c.in-Err-TooManyPredicates.ensures.cause in
    sheet_predicates few cause

pub returns-in-Err-TooManyAncestorStates-clause-err : goal.returns-in-Err-TooManyAncestorStates-clause-err
returns-in-Err-TooManyAncestorStates-clause-err c = λ few.
    let cause = subst (IsCause c.args.alphabet.now (see.sheet c.args.sheet.now)) c.in-Err-TooManyAncestorStates.field-0-is c.in-Err-TooManyAncestorStates.ensures.cause in
    sheet_ancestors few cause.0 cause.1

pub returns-in-Err-TooManySelectStates-clause-err : goal.returns-in-Err-TooManySelectStates-clause-err
returns-in-Err-TooManySelectStates-clause-err c = λ few.
    let cause = subst (IsCause c.args.alphabet.now (see.sheet c.args.sheet.now)) c.in-Err-TooManySelectStates.field-0-is c.in-Err-TooManySelectStates.ensures.cause in
    sheet_selects few cause.0 cause.1 cause.2
