-- The parts of attribute values and runs of characters.
use Rattle.std.specs.Prelude.{ℕ, Bool, List, [], ◌∷◌, drop, if◌then◌else◌}
use Rattle.tc_model.specs.XmlTextBytes.{RunAt, begins_with, line_ends}
use Rattle.tc_model.specs.XmlTextReferences.{ReferenceAt, is_plain_within, spaced}

-- a run or a reference at the front of what is left of a value in such quotes, as it is normalised, and what follows it
pub data PieceAt (others : Bool) (quote : ℕ) : List ℕ → List ℕ → List ℕ → Type 0 where
  plain : {bs run rest : List ℕ} → RunAt (is_plain_within quote) bs run rest → PieceAt others quote bs (spaced (line_ends run)) rest
  reference : {bs text rest : List ℕ} → ReferenceAt others bs text rest → PieceAt others quote bs text rest

-- what follows the CR LF, or the one byte, at the front
abbrev pub past_line_end : List ℕ → List ℕ
past_line_end bs = if begins_with (0xD ∷ 0xA ∷ []) bs then drop 2 bs else drop 1 bs
