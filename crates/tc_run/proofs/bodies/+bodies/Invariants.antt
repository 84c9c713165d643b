use Rattle.std.proofs.Common.{◌≤◌, List, drop}
use Rattle.tc_model.specs.Views as see
use Rattle.tc_model.specs.Sheets.{CallFreeBody, Inlines}
use Rattle.tc_rules.specs.States.{Going}
use Rattle.tc_model.specs.Trees.{none}
use Rattle.tc_run.specs.Lettered.{bare, none as no_tree}
use Rattle.tc_rules.specs.Parts.{IsPart}
use Rattle.tc_run.specs.Running.{IsLetteredBy, HasBodies, sheet_by, told_by}
use Rattle.tc_run.specs.Views.{before, trees}
use Rattle.tc_rules.specs.Tasks.{IsMoveAt}
use Rattle.tc_run.specs.Visits.{AreFoundBy}
use Rattle.tc_run.proofs.Progress.{BodySoFar, HitsSoFar, left_at}
use Rattle.tc_run.proofs.bodies.+bodies.Given as goal

abbrev pub invariant-body-loop-one : goal.invariant-body-loop-one
invariant-body-loop-one l =
    ((l.output.work ≤ 4000000) × AreFoundBy l.runner l.known) × IsPart (sheet_by l.runner) (see.body (drop l.one-index l.body))
    × ((bodies : List CallFreeBody) (p : CallFreeBody) → HasBodies l.runner bodies → Inlines (sheet_by l.runner).named (see.body l.body) p
    → BodySoFar l.runner bodies l.here l.nesting l.initial.output l.output p (see.body (drop l.one-index l.body)))

abbrev pub invariant-apply_to_trees-loop-node : goal.invariant-apply_to_trees-loop-node
invariant-apply_to_trees-loop-node l =
    ((l.output.work ≤ 4000000) × AreFoundBy l.runner l.known) × IsLetteredBy l.runner (trees (drop l.node-index l.nodes))
    × ((bodies : List CallFreeBody) (g : Going) → HasBodies l.runner bodies → IsMoveAt (told_by l.runner) l.state g
    → HitsSoFar l.runner bodies l.above l.nesting l.initial.output l.output g (bare (trees l.nodes)) (bare (trees (drop l.node-index l.nodes))))

-- each call is one body or instruction deeper, or goes to the children
abbrev pub decreases-apply_to_trees : goal.decreases-apply_to_trees
decreases-apply_to_trees l = left_at l.nesting (bare (trees l.nodes.now)) 1

abbrev pub decreases-apply_to_tree : goal.decreases-apply_to_tree
decreases-apply_to_tree l = left_at l.nesting (bare (before l.node.now no_tree)) 0

abbrev pub decreases-apply_to_text : goal.decreases-apply_to_text
decreases-apply_to_text l = left_at l.nesting none 5

abbrev pub decreases-instantiate_some : goal.decreases-instantiate_some
decreases-instantiate_some l = left_at l.nesting (bare (trees l.here.now.kids.now)) 4

abbrev pub decreases-selected : goal.decreases-selected
decreases-selected l = left_at l.nesting (bare (trees l.here.now.kids.now)) 3

abbrev pub decreases-instantiate : goal.decreases-instantiate
decreases-instantiate l = left_at l.nesting (bare (trees l.here.now.kids.now)) 1

abbrev pub decreases-built_in : goal.decreases-built_in
decreases-built_in l = left_at l.nesting (bare (trees l.here.now.kids.now)) 1

abbrev pub decreases-body : goal.decreases-body
decreases-body l = left_at l.nesting (bare (trees l.here.now.kids.now)) 7

abbrev pub decreases-instruction : goal.decreases-instruction
decreases-instruction l = left_at l.nesting (bare (trees l.here.now.kids.now)) 6

abbrev pub decreases-put_element : goal.decreases-put_element
decreases-put_element l = left_at l.nesting (bare (trees l.here.now.kids.now)) 8

abbrev pub decreases-copy : goal.decreases-copy
decreases-copy l = left_at l.nesting (bare (trees l.here.now.kids.now)) 9
