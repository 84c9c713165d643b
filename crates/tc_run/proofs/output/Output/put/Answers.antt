use Rattle.std.proofs.Common.{◌≡◌, Result, Ok, Err, OnOk, length, rules, arith}
use Rattle.std.specs.Result.{IsErrAnd}
use Rattle.tc_model.specs.Outcomes.{put}
use Rattle.tc_run.specs.declared.RunFault.TheVariants.{NoMemory}
use Rattle.tc_run.proofs.Handing.{handed}
use Rattle.tc_run.proofs.Putting.{no_text}
use Rattle.tc_run.proofs.output.Output.put.Goals as goal

-- what fails has no value
failed : {T E : Type 0} (r : Result T E) (P : Type 0) (Q : E → Type 0) → IsErrAnd r Q → OnOk r P
failed (Ok v) P Q h = absurd h
failed (Err e) P Q h = tt

pub returns-then-is_empty-clause-few : goal.returns-then-is_empty-clause-few
returns-then-is_empty-clause-few c = c.requires

pub returns-then-is_empty-clause-outcome : goal.returns-then-is_empty-clause-outcome
returns-then-is_empty-clause-outcome c = λ around low.
    let empty : length c.args.text.now ≡ 0 = search rules in
    no_text around c.args.self.now c.args.text.now empty c.requires low

pub returns-in_err-count-clause-few : goal.returns-in_err-count-clause-few
returns-in_err-count-clause-few c = failed c.from_residual.result _ _ c.from_residual.ensures.1

pub returns-in_err-text-clause-few : goal.returns-in_err-text-clause-few
returns-in_err-text-clause-few c = failed c.from_residual-in_err-text.result _ _ c.from_residual-in_err-text.ensures.1

pub returns-in_err-text-clause-outcome : goal.returns-in_err-text-clause-outcome
returns-in_err-text-clause-outcome c = λ around low.
    handed around c.args.self.now _ c.from_residual-in_err-text.result NoMemory (put c.args.text.now) c.from_residual-in_err-text.ensures.1 tt

pub returns-clause-few : goal.returns-clause-few
returns-clause-few c = omega (arith, c.in_ok-count.ensures.ok)
