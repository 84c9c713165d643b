-- A sink in memory: what clients see of it, and what a write does.
use Rattle.std.specs.Prelude.{◌≡◌, ◌+◌, ◌-◌, ◌≤◌, ◌⊎◌, ℕ, List, [], ◌++◌, length, take, Contains, Ok, Err}
use Rattle.tc_io.specs.Faults.{raised}
use Rattle.tc_io.specs.Sink.{Wrote}

-- what clients see of a sink in memory
pub record SinkState : Type 0 where
  pub bytes : List ℕ
  -- the most bytes that it takes
  pub room : ℕ
  -- how many writes there were, up to the last value of a count
  pub calls : ℕ
  -- the numbers of the writes that are to fail, the first write being number 1
  pub failing : List ℕ
  pub faults : ℕ

-- the next write is one that was given to fail
abbrev pub NextFails : SinkState → Type 0
NextFails sink = Contains sink.failing (raised sink.calls)

-- the room that is left takes the piece
abbrev pub Fits : SinkState → List ℕ → Type 0
Fits sink piece = length sink.bytes + length piece ≤ sink.room

-- the sink after a write that appended these bytes
abbrev pub after_write : SinkState → List ℕ → SinkState
after_write sink piece = record sink { bytes = sink.bytes ++ piece; calls = raised sink.calls }

-- the sink after a write that failed and appended these bytes
abbrev pub after_fault : SinkState → List ℕ → SinkState
after_fault sink piece = record sink { bytes = sink.bytes ++ piece; calls = raised sink.calls; faults = raised sink.faults }

-- why a write is answered so, and what it leaves: a write that is to fail appends nothing, and one that doesn't fit
-- appends as much as fits
abbrev pub Writes : SinkState → List ℕ → Wrote → SinkState → Type 0
Writes old piece (Ok _) new = ¬ NextFails old × Fits old piece × (new ≡ after_write old piece)
Writes old piece (Err _) new =
    (NextFails old × (new ≡ after_fault old []))
    ⊎ (¬ NextFails old × ¬ Fits old piece × (new ≡ after_fault old (take (old.room - length old.bytes) piece)))
