use Rattle.std.proofs.Common.{ℕ, IsUtf8, length}
use Rattle.tc_xml.specs.PlainTags.{AttributesRead}
use Rattle.tc_xml.proofs.plain_tags.read_attributes.Given as goal

abbrev pub invariant-attributes : goal.invariant-attributes
invariant-attributes l = record {
  so_far : (total : ℕ) → AttributesRead total l.initial.bindings l.text l.bindings l.names.items l.rest;
  text : IsUtf8 l.rest;
}

abbrev pub decreases-attributes : goal.decreases-attributes
decreases-attributes l = length l.rest
