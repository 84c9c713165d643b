use Rattle.std.proofs.Common.{ap, rules, ◌∙◌}
use Rattle.tc_model.specs.Runs.{run_text}
use Rattle.tc_model.specs.Views.{trees}
use Rattle.tc_model.proofs.Views.{pushed_text}
use Rattle.tc_model.proofs.NormalForm.{put_white, put_text}
use Rattle.tc_model.proofs.normal.end_run.Goals as goal

pub returns-in_ok-push-clause-nodes : goal.returns-in_ok-push-clause-nodes
returns-in_ok-push-clause-nodes c =
    put_text (trees c.args.gathered.now.nodes.items) (trees c.push.new.self.items) (run_text c.args.gathered.now.run) c.text_of-text.result.now
    (search rules)
    (search rules)
    (ap trees c.in_ok-push.ensures.items ∙ pushed_text c.args.gathered.now.nodes.items c.text_of-text.result)

pub returns-else-not-is_white_space_only-clause-nodes : goal.returns-else-not-is_white_space_only-clause-nodes
returns-else-not-is_white_space_only-clause-nodes c = put_white (trees c.args.gathered.now.nodes.items) (run_text c.args.gathered.now.run) (search rules)
