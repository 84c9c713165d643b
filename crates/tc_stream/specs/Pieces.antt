-- What a reader and the bytes that are cut off stand for together.
use Rattle.std.specs.Prelude.{◌≡◌, ◌<◌, ℕ, List, ◌++◌, length, slice_index}
use Rattle.tc_model.specs.Grammars.{Grammar}
use Rattle.tc_stream.specs.Cuts.{char_length}
use Rattle.tc_stream.specs.Stands.{ReadsTo}
use Rattle.tc_stream.specs.declared.reader.Reader.{Reader}

-- these bytes, if there are any, are fewer than the first one says
abbrev pub IsCutShort : List ℕ → Type 0
IsCutShort cut = 0 < length cut → length cut < char_length (slice_index cut 0)

-- a text is read but for the bytes of a character that is cut off
pub record ReadsPiece (x : Grammar) (s : Reader) (cut text : List ℕ) : Type 0 where
  pub chars : List ℕ
  pub parts : text ≡ chars ++ cut
  pub reads : ReadsTo x s chars
