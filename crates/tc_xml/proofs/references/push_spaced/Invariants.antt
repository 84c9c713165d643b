use Rattle.std.proofs.Common.{◌≡◌, ◌++◌, IsUtf8, length, string_bytes}
use Rattle.tc_model.specs.XmlTextBytes.{line_ends}
use Rattle.tc_model.specs.XmlTextReferences.{spaced}
use Rattle.tc_xml.proofs.references.push_spaced.Given as goal

-- what was appended, and what is left to append
abbrev pub invariant-loop-at : goal.invariant-loop-at
invariant-loop-at l = record {
  so_far : string_bytes l.out ++ spaced (line_ends l.rest) ≡ string_bytes l.initial.out ++ spaced (line_ends l.run);
  text : IsUtf8 l.rest;
}

abbrev pub decreases-loop-at : goal.decreases-loop-at
decreases-loop-at l = length l.rest
