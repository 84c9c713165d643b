use Rattle.std.proofs.Common.{◌≤◌, length, IsUtf8}
use Rattle.tc_stream.specs.Reading.{ReadsOn}
use Rattle.tc_stream.specs.Stands.{IsReading}
use Rattle.tc_stream.proofs.reader.Reader.read_all.Given as goal

-- the text is read up to what is left of it
abbrev pub invariant-loop-rest : goal.invariant-loop-rest
invariant-loop-rest l = record { reads : ReadsOn l.fn.self l.self l.text l.rest l.end; ready : IsReading l.self; within : length l.rest ≤ l.end; text : IsUtf8 l.rest }

abbrev pub decreases-loop-rest : goal.decreases-loop-rest
decreases-loop-rest l = length l.rest
