use Rattle.std.proofs.Common.{◌≡◌, take}
use Rattle.std.specs.List.{IsDistinct}
use Rattle.tc_tags.specs.Listed.{same_parts, all_parts, chains_of_parts}
use Rattle.tc_tags.proofs.attributes.Sort.are_apart.Given as goal

abbrev pub invariant-loop-at : goal.invariant-loop-at
invariant-loop-at l = record {
  most : l.chains.most ≡ l.fn.chains.most;
  seen : l.chains.chains ≡ chains_of_parts l.self l.tag l.names.bytes.items l.scopes.declared.items (take l.at l.list);
  apart : IsDistinct same_parts (all_parts l.self l.tag l.names.bytes.items l.scopes.declared.items (take l.at l.list));
}
