-- How a reader reads on by a character that stands at a place, and why it doesn't.
use Rattle.std.specs.Prelude.{◌≡◌, ◌++◌, ℕ, List, length, encode_utf8, IsTrue}
use Rattle.tc_base.specs.Characters.{is_char}
use Rattle.tc_model.specs.Grammars.{Grammar}
use Rattle.tc_stream.specs.Faults.{IsFaultOfFront}
use Rattle.tc_stream.specs.Stands.{IsReading, ReadsTo}
use Rattle.tc_stream.specs.declared.faults.StreamFault.{StreamFault}
use Rattle.tc_stream.specs.declared.reader.Reader.{Reader}

pub record ReadsCharAt (old new : Reader) (place c : ℕ) : Type 0 where
  pub ready : IsReading new
  pub reads : (x : Grammar) (chars : List ℕ) → IsTrue (is_char c) → length chars ≡ place → ReadsTo x old chars → ReadsTo x new (chars ++ encode_utf8 c)

abbrev pub FaultsCharAt : Reader → ℕ → ℕ → StreamFault → Type 0
FaultsCharAt old place c e = (x : Grammar) (chars : List ℕ) → IsTrue (is_char c) → length chars ≡ place → ReadsTo x old chars → IsFaultOfFront (chars ++ encode_utf8 c) e
