use Rattle.std.proofs.Common.{sym, subst, ap}
use Rattle.tc_model.specs.Chains.{string_value}
use Rattle.tc_model.specs.Outcomes.{put}
use Rattle.tc_run.specs.Lettered.{bare}
use Rattle.tc_run.specs.Spent.{Answers}
use Rattle.tc_run.specs.Views.{trees, node_of}
use Rattle.tc_run.proofs.BuiltIn.{joined_self}
use Rattle.tc_run.proofs.bodies.put_self.Goals as goal

pub returns-in-Text-clause-outcome : goal.returns-in-Text-clause-outcome
returns-in-Text-clause-outcome c = λ around low.
    subst (λ s. Answers around c.args.output.now c.put.new.self c.put.result (put s)) (sym (ap (λ s. string_value (node_of s (bare (trees c.args.here.now.kids.now)))) c.in-Text.is)) (c.put.ensures.outcome around low)

pub returns-in_default-clause-outcome : goal.returns-in_default-clause-outcome
returns-in_default-clause-outcome c = λ around low.
    subst (λ s. Answers around c.args.output.now c.put_joined.new.self c.put_joined.result (put s)) (joined_self c.args.here.now c.in_default.not-Text) (c.put_joined.ensures.outcome around low)
