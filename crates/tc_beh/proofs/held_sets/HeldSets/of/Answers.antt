use Rattle.std.proofs.Common.{◌∙◌, Result, Ok, Err, IfOk}
use Rattle.std.specs.Result.{IsErrAnd}
use Rattle.tc_beh.proofs.held_sets.HeldSets.of.Goals as goal

pub invariant_of-result : goal.invariant_of-result
invariant_of-result c = (c.in_ok-products.ensures _, c.in_ok-identity.ensures.pairs, c.in_ok-identity.ensures.size ∙ c.size.ensures, c.nothing_in-nothing.ensures)

pub nothing_in-nothing-requires-clause-is : goal.nothing_in-nothing-requires-clause-is
nothing_in-nothing-requires-clause-is c = c.in_ok-identity.ensures.pairs

pub nothing_in-nothing-requires-clause-size : goal.nothing_in-nothing-requires-clause-size
nothing_in-nothing-requires-clause-size c = c.in_ok-identity.ensures.size ∙ c.size.ensures

-- what fails has no value
failed : {T E : Type 0} (r : Result T E) (P : T → Type 0) (Q : E → Type 0) → IsErrAnd r Q → IfOk r P
failed (Ok v) P Q h = absurd h
failed (Err e) P Q h = tt

pub returns-in_err-products : goal.returns-in_err-products
returns-in_err-products c = failed c.from_residual.result _ _ c.from_residual.ensures.1

pub returns-in_err-guesses : goal.returns-in_err-guesses
returns-in_err-guesses c = failed c.from_residual-in_err-guesses.result _ _ c.from_residual-in_err-guesses.ensures.1

pub returns-in_err-identity : goal.returns-in_err-identity
returns-in_err-identity c = failed c.from_residual-in_err-identity.result _ _ c.from_residual-in_err-identity.ensures.1
