use Rattle.std.proofs.Common.{ap, ◌∙◌}
use Rattle.tc_model.specs.Views as see
use Rattle.tc_model.specs.Views.{trees}
use Rattle.tc_model.specs.Trees.{beside, element, none}
use Rattle.tc_model.proofs.Views.{pushed_elem}
use Rattle.tc_model.proofs.normal.gather_element.Goals as goal

pub returns-clause-nodes : goal.returns-clause-nodes
returns-clause-nodes c =
    ap trees c.in_ok-push.ensures.items
    ∙ (pushed_elem c.end_run.new.gathered.nodes.items c.args.name.now c.args.kids
    ∙ ap (λ b. beside b (element (see.name c.args.name.now) (trees c.args.kids.now) none)) c.in_ok-end_run.ensures.nodes)
