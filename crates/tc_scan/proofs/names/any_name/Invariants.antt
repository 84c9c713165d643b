use Rattle.std.proofs.Common.{IsUtf8, length}
use Rattle.tc_scan.specs.Names.{GoesOn}
use Rattle.tc_scan.proofs.names.any_name.Given as goal

-- the name so far
abbrev pub invariant-loop-next : goal.invariant-loop-next
invariant-loop-next l = record {
  name : GoesOn l.initial.rest l.rest;
  text : IsUtf8 l.rest;
}

abbrev pub decreases-loop-next : goal.decreases-loop-next
decreases-loop-next l = length l.rest
