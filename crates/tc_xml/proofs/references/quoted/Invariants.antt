use Rattle.std.proofs.Common.{IsUtf8, length, string_bytes}
use Rattle.tc_xml.proofs.references.quoted.Given as goal
use Rattle.tc_tags.proofs.FormLaws.{Step}

abbrev pub invariant-loop-after : goal.invariant-loop-after
invariant-loop-after l = record {
  step : Step l.quote l.initial.rest (string_bytes l.value) l.rest;
  text : IsUtf8 l.rest;
}

abbrev pub decreases-loop-after : goal.decreases-loop-after
decreases-loop-after l = length l.rest
