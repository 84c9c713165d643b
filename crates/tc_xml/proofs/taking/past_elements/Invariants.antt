use Rattle.std.proofs.Common.{List, ℕ, IsUtf8, length}
use Rattle.tc_model.specs.Runs.{run_text}
use Rattle.tc_xml.specs.Taking.{StandsAfter}
use Rattle.tc_xml.proofs.taking.past_elements.Given as goal

-- where reading stands, if it stood where it did
abbrev pub invariant-elements : goal.invariant-elements
invariant-elements g l = record {
  stands : (deepest : ℕ) (root : List ℕ) (begun : g.row.T.Denot)
      → StandsAfter g.T.TakesTrees.takes l.total deepest root begun l.initial.levels l.initial.rest l.initial.reader.taker (run_text l.initial.reader.run)
      → StandsAfter g.T.TakesTrees.takes l.total deepest root begun l.levels l.rest l.reader.taker (run_text l.reader.run);
  text : IsUtf8 l.rest;
}

abbrev pub decreases-elements : goal.decreases-elements
decreases-elements g l = length l.rest
