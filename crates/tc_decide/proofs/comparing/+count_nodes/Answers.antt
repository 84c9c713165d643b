use Rattle.std.proofs.Common.{arith, rules}
use Rattle.tc_model.proofs.Views.{steps}
use Rattle.tc_model.specs.declared.tree.Node.TheViews.{the_lemmas}
use Rattle.tc_decide.proofs.comparing.+count_nodes.Goals as goal

pub count_nodes-requires : goal.count_nodes-requires
count_nodes-requires t c = (search (rules, the_lemmas), grind (arith, steps))
