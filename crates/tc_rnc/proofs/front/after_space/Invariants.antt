use Rattle.std.proofs.Common.{◌≡◌, List, ℕ, IsUtf8, length}
use Rattle.tc_model.specs.XmlTextBytes.{after_white}
use Rattle.tc_rnc.specs.Fronts.{Skips}
use Rattle.tc_rnc.proofs.front.after_space.Given as goal

-- what was skipped so far, white space last
abbrev pub invariant-loop-comment : goal.invariant-loop-comment
invariant-loop-comment l = record {
  skips : Skips l.fn.text l.rest;
  stops : (line : List ℕ) × (l.rest ≡ after_white line);
  text : IsUtf8 l.rest;
}

abbrev pub decreases-loop-comment : goal.decreases-loop-comment
decreases-loop-comment l = length l.rest
