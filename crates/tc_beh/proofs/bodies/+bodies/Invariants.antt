use Rattle.std.proofs.Common.{◌≡◌, ◌≤◌, drop}
use Rattle.tc_model.specs.Views as see
use Rattle.tc_model.specs.Sheets as s
use Rattle.tc_rules.specs.Kept.{told}
use Rattle.tc_rules.specs.Parts.{IsPart, ArePartBranches}
use Rattle.tc_rows.specs.Triples.{Triple}
use Rattle.tc_rows.specs.PairSets.{HaveSamePairs, product}
use Rattle.tc_beh.specs.Heights.{depth_in, depth_in_branches}
use Rattle.tc_beh.specs.Opening.{IsBeside}
use Rattle.tc_beh.specs.Putting.{has, put_pairs, put_branch_pairs}
use Rattle.tc_beh.specs.Places.{IsPlaceIn, kind_of, below_of, called_by}
use Rattle.tc_beh.proofs.bodies.+bodies.Given as goal

abbrev pub invariant-put_body-loop-instruction : goal.invariant-put_body-loop-instruction
invariant-put_body-loop-instruction l = record {
  same : IsBeside l.place.output.now l.place.outputs.now l.fn.sets l.sets;
  part : IsPart (told l.place.rules.now).sheet (see.body (drop l.instruction-index l.body));
  depth : depth_in (see.body (drop l.instruction-index l.body)) ≤ depth_in (see.body l.body);
  pairs : (x : Triple) → IsPlaceIn x l.place → HaveSamePairs
      (product (has l.sets.out) (put_pairs x (kind_of l.place.node) (below_of x l.place) (called_by l.place) (see.body (drop l.instruction-index l.body))))
      (product (has l.fn.sets.out) (put_pairs x (kind_of l.place.node) (below_of x l.place) (called_by l.place) (see.body l.body)));
}

abbrev pub invariant-put_first-loop-branch : goal.invariant-put_first-loop-branch
invariant-put_first-loop-branch l = record {
  sets : l.sets ≡ l.fn.sets;
  part : ArePartBranches (told l.place.rules.now).sheet (see.branches (drop l.branch-index l.branches) (s.otherwise s.no_instruction));
  depth : depth_in_branches (see.branches (drop l.branch-index l.branches) (s.otherwise s.no_instruction)) ≤ depth_in_branches (see.branches l.branches (s.otherwise s.no_instruction));
  chosen : (x : Triple) (rest : s.Branches) → IsPlaceIn x l.place → HaveSamePairs
      (put_branch_pairs x (kind_of l.place.node) (below_of x l.place) (called_by l.place) (see.branches (drop l.branch-index l.branches) rest))
      (put_branch_pairs x (kind_of l.place.node) (below_of x l.place) (called_by l.place) (see.branches l.branches rest));
}
