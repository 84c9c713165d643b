-- How a text is written: line after line, each by a write of its own.
use Rattle.std.specs.Prelude.{◌≡◌, ◌==◌, ℕ, List, [], ◌∷◌, ◌++◌, map, Ok, Err, if◌then◌else◌}
use Rattle.tc_io.specs.Sink.{Write}
use Rattle.tc_io.specs.declared.WriteFault.{WriteFault}

-- a byte and the lines of what stands behind it, in the first of which it stands
abbrev pub begun_with : ℕ → List (List ℕ) → List (List ℕ)
begun_with byte [] = (byte ∷ []) ∷ []
begun_with byte (line ∷ lines) = (byte ∷ line) ∷ lines

-- the lines of a text, each with its line feed, and what stands behind the last line feed, unless that is nothing
abbrev pub lines_of : List ℕ → List (List ℕ)
lines_of [] = []
lines_of (byte ∷ bytes) = if byte == 10 then (byte ∷ []) ∷ lines_of bytes else begun_with byte (lines_of bytes)

-- a piece that was written whole
abbrev pub whole : List ℕ → Write
whole piece = (piece, Ok tt)

-- the pieces were written in order, each of them whole
abbrev pub AreWritten : List (List ℕ) → List Write → Type 0
AreWritten pieces writes = writes ≡ map whole pieces

-- the pieces were written in order up to one of which the write failed, the last write
pub record BreakOff (pieces : List (List ℕ)) (writes : List Write) : Type 0 where
  pub before : List (List ℕ)
  pub piece : List ℕ
  pub behind : List (List ℕ)
  pub parts : before ++ (piece ∷ behind) ≡ pieces
  pub fault : WriteFault
  pub made : writes ≡ map whole before ++ ((piece, Err fault) ∷ [])
