use Rattle.std.proofs.Common.{ap, ◌∙◌}
use Rattle.tc_model.specs.Trees.{element, none}
use Rattle.tc_model.specs.Views.{trees}
use Rattle.tc_model.proofs.Views.{before_elem}
use Rattle.tc_settle.proofs.building.build_element.Goals as goal

pub returns : goal.returns
returns c = before_elem c.in_ok-name.name c.args.kids none ∙ ap (λ n. element n (trees c.args.kids.now) none) c.in_ok-name.ensures.name
