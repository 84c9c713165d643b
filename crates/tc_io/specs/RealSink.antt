-- A sink over a writer: what clients see of it, and what of a piece reaches the writer.
use Rattle.std.specs.Prelude.{◌≡◌, ℕ, List, ◌++◌, Option, Ok, Err}
use Rattle.std.specs.Io.KnownBytes.{Appends}
use Rattle.tc_io.specs.Faults.{raised}
use Rattle.tc_io.specs.Sink.{Wrote}

-- what clients see of a sink over a writer
pub record WriterState (W : Type 0) : Type 0 where
  pub out : W
  pub faults : ℕ

-- the bytes that the writer holds, where it tells them, grew by a front of the whole, and not by the rest of it
pub record AppendsFront (old new : Option (List ℕ)) (whole : List ℕ) : Type 0 where
  pub front : List ℕ
  pub rest : List ℕ
  pub parts : front ++ rest ≡ whole
  pub appended : Appends old new front

-- what a write does: a fault alone raises the count, by one, and then a front of the piece reaches the writer, else all of it
abbrev pub Reaches : {W : Type 0} → (W → Option (List ℕ)) → WriterState W → List ℕ → Wrote → WriterState W → Type 0
Reaches contents old piece (Ok _) new = (new.faults ≡ old.faults) × Appends (contents old.out) (contents new.out) piece
Reaches contents old piece (Err _) new = (new.faults ≡ raised old.faults) × AppendsFront (contents old.out) (contents new.out) piece
