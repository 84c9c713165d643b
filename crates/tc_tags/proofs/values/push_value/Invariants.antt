use Rattle.std.proofs.Common.{◌≡◌, IsUtf8, length}
use Rattle.tc_tags.proofs.ValueLaws.{Pushed}
use Rattle.tc_tags.proofs.values.push_value.Given as goal

abbrev pub invariant-loop-names : goal.invariant-loop-names
invariant-loop-names l = record {
  most : l.names.most ≡ l.fn.names.most;
  so_far : Pushed l.quote l.text l.fn.names.bytes.items l.rest l.names.bytes.items;
  text : IsUtf8 l.rest;
}

abbrev pub decreases-loop-names : goal.decreases-loop-names
decreases-loop-names l = length l.rest
