-- What a write does to the bytes written so far, and what the writes of a call were.
use Rattle.std.specs.Prelude.{◌≡◌, ℕ, List, [], ◌∷◌, ◌++◌, Option, Some, None, Result}
use Rattle.tc_io.specs.declared.WriteFault.{WriteFault}

-- the piece stands at the end of what is written, where that is told; what isn't told stays untold
abbrev pub Appended : Option (List ℕ) → Option (List ℕ) → List ℕ → Type 0
Appended None new piece = new ≡ None
Appended (Some bytes) new piece = new ≡ Some (bytes ++ piece)

-- a front of the whole was written, and a rest of it was not
pub record WroteFront (old new : Option (List ℕ)) (whole : List ℕ) : Type 0 where
  pub front : List ℕ
  pub rest : List ℕ
  pub parts : front ++ rest ≡ whole
  pub appended : Appended old new front

-- what a write came to
abbrev pub Wrote : Type 0
Wrote = Result (Unit {0}) WriteFault

-- a write: the piece, and what came of it
abbrev pub Write : Type 0
Write = List ℕ × Wrote

-- These are all the writes between two states of a sink, in order. `gives` says which states, pieces and outcomes a write joins.
abbrev pub AreWrites : {S : Type 0} → (S → List ℕ → Wrote → S → Type 0) → S → List Write → S → Type 0
AreWrites gives old [] new = new ≡ old
AreWrites {S} gives old (write ∷ writes) new = (after : S) × gives old write.0 write.1 after × AreWrites gives after writes new
