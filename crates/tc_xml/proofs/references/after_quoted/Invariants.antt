use Rattle.std.proofs.Common.{List, ℕ, false, IsUtf8, length}
use Rattle.tc_model.specs.XmlTextReferences.{ValueAt}
use Rattle.tc_xml.proofs.references.after_quoted.Given as goal

-- what is left of the value belongs to it
abbrev pub invariant-pieces : goal.invariant-pieces
invariant-pieces l = record {
  forth : (v after : List ℕ) → ValueAt false l.quote l.rest v after → (w : List ℕ) × ValueAt false l.quote l.initial.rest w after;
  text : IsUtf8 l.rest;
}

abbrev pub decreases-pieces : goal.decreases-pieces
decreases-pieces l = length l.rest
