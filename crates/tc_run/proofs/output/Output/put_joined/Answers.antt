use Rattle.std.proofs.Common.{subst}
use Rattle.tc_model.specs.Outcomes.{put}
use Rattle.tc_run.specs.Spent.{Answers}
use Rattle.tc_run.specs.declared.RunFault.TheVariants.{NoMemory}
use Rattle.tc_run.proofs.Handing.{handed}
use Rattle.tc_run.proofs.output.Output.put_joined.Goals as goal

pub returns-clause-outcome : goal.returns-clause-outcome
returns-clause-outcome c = λ around low.
    subst (λ s. Answers around c.args.self.now c.put.new.self c.put.result (put s)) c.in_ok-text.ensures (c.put.ensures.outcome around low)

pub returns-in_err-text-clause-outcome : goal.returns-in_err-text-clause-outcome
returns-in_err-text-clause-outcome c = λ around low. handed around c.args.self.now c.args.self.now c.from_residual.result NoMemory _ c.from_residual.ensures.1 tt
