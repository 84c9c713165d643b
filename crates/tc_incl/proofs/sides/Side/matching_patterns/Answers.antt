use Rattle.tc_model.specs.Symbols.{fresh_name}
use Rattle.tc_incl.specs.Sides.{IsAllowed, IsTaken}
use Rattle.tc_incl.proofs.Stepped.{allowed_and_taken, some_at}
use Rattle.tc_incl.proofs.HandedOn.{no_value}
use Rattle.tc_incl.proofs.sides.Side.matching_patterns.Goals as goal

pub returns-clause-numbers : goal.returns-clause-numbers
returns-clause-numbers c = λ x states symbols st are allowed.
    let (s, at) = some_at c.args.self.now.allowed.items c.args.symbol c.requires.symbol in
    let same = c.in_ok-around.ensures.numbers s at in
    let holds = allowed c.args.symbol s at in
    allowed_and_taken c.in_ok-around.around c.keep_all.new.self c.args.steps.now.taken (IsAllowed x (fresh_name symbols c.args.symbol)) (IsTaken x states) c.keep_all.ensures.numbers
    (λ k. (λ h. (holds k).0 ((same k).0 h), λ a. (same k).1 ((holds k).1 a))) (are.taken x st)

pub returns-clause-from_one : goal.returns-clause-from_one
returns-clause-from_one c = let are = c.requires.steps.1 in λ h. are.from_one ((c.keep_all.ensures.numbers 0).0 h).1

pub returns-clause-set : goal.returns-clause-set
returns-clause-set c = c.size-size.ensures.set

pub returns-in_err-around-clause-set : goal.returns-in_err-around-clause-set
returns-in_err-around-clause-set c = no_value c.from_residual.result _ _ c.from_residual.ensures.1

pub returns-in_err-around-clause-size : goal.returns-in_err-around-clause-size
returns-in_err-around-clause-size c = no_value c.from_residual.result _ _ c.from_residual.ensures.1

pub returns-in_err-around-clause-from_one : goal.returns-in_err-around-clause-from_one
returns-in_err-around-clause-from_one c = no_value c.from_residual.result _ _ c.from_residual.ensures.1

pub returns-in_err-around-clause-numbers : goal.returns-in_err-around-clause-numbers
returns-in_err-around-clause-numbers c = no_value c.from_residual.result _ _ c.from_residual.ensures.1
