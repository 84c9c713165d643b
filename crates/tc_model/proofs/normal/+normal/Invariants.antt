use Rattle.std.proofs.Common.{◌≡◌, drop}
use Rattle.tc_model.specs.NormalLevels.{known_kids}
use Rattle.tc_model.specs.Trees.{beside, joined, joined_to, dropped, normal_form}
use Rattle.tc_model.specs.Runs.{run_text}
use Rattle.tc_model.specs.Views.{trees}
use Rattle.tc_model.proofs.NormalLevels.{AreLooked, AreLeft}
use Rattle.tc_model.proofs.normal.+normal.Given as goal

abbrev pub invariant-first_change-loop-place : goal.invariant-first_change-loop-place
invariant-first_change-loop-place l = AreLooked l.nodes l.place l.behind

-- what is gathered, and then the normal form of the run so far before what is left
abbrev pub invariant-normal_from-loop-place : goal.invariant-normal_from-loop-place
invariant-normal_from-loop-place l = record {
  gathered : beside (trees l.gathered.nodes.items) (dropped (joined_to (run_text l.gathered.run) (joined (trees (drop l.place l.nodes))))) ≡ normal_form (trees l.nodes);
  left : AreLeft l.known.place l.place (known_kids l.known.kids) (trees (drop l.place l.nodes));
}
