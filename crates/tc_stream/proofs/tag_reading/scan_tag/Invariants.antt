use Rattle.std.proofs.Common.{◌-◌, length}
use Rattle.tc_stream.proofs.TagReads.{SoFar}
use Rattle.tc_stream.proofs.tag_reading.scan_tag.Given as goal

-- the first so many bytes end within these quotes or none
abbrev pub invariant-quotes : goal.invariant-quotes
invariant-quotes l = SoFar l.fn.quote l.within l.bytes l.from

abbrev pub decreases-quotes : goal.decreases-quotes
decreases-quotes l = length l.bytes - l.from
