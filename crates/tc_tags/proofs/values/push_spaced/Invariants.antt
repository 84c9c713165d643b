use Rattle.std.proofs.Common.{◌≡◌, ◌++◌, IsUtf8, length}
use Rattle.tc_model.specs.XmlTextBytes.{line_ends}
use Rattle.tc_model.specs.XmlTextReferences.{spaced}
use Rattle.tc_tags.proofs.values.push_spaced.Given as goal

-- what was added, and what is left to add
abbrev pub invariant-loop-at : goal.invariant-loop-at
invariant-loop-at l = record {
  most : l.names.most ≡ l.fn.names.most;
  so_far : l.names.bytes.items ++ spaced (line_ends l.rest) ≡ l.fn.names.bytes.items ++ spaced (line_ends l.run);
  text : IsUtf8 l.rest;
}

abbrev pub decreases-loop-at : goal.decreases-loop-at
decreases-loop-at l = length l.rest
