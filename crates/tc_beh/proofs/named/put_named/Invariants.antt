use Rattle.tc_rows.specs.Triples.{Triple, sheet}
use Rattle.tc_beh.specs.Callees.{AreCalleesFirst}
use Rattle.tc_beh.specs.Opening.{IsBeside}
use Rattle.tc_beh.specs.Places.{kind_of, below_of}
use Rattle.tc_beh.specs.Grounds.{IsGroundIn, AreNamedSets}
use Rattle.tc_beh.proofs.Deepening.{Ready}
use Rattle.tc_beh.proofs.named.put_named.Given as goal

abbrev pub invariant-loop-number : goal.invariant-loop-number
invariant-loop-number l = record {
  named : AreNamedSets l.place l.named;
  same : IsBeside l.place.output.now l.place.outputs.now l.fn.sets l.sets;
  ready : (x : Triple) (first : AreCalleesFirst (sheet x).named l.order) → IsGroundIn x l.place → Ready x (kind_of l.place.node) (below_of x l.place) l.order first l.number-index l.named;
}
