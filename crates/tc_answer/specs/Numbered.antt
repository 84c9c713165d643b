-- What contracts see of a number before the operands of a command.
use Rattle.std.specs.Prelude.{◌≡◌, ℕ, List, ◌∷◌, Option, Some, None}
use Rattle.tc_answer.specs.Words.{IsNumeral}

-- what stands before operands: a mark and a number to `most`, or nothing
abbrev pub Numbered : List ℕ → ℕ → List (List ℕ) → Option ℕ → List (List ℕ) → Type 0
Numbered mark most words None operands = words ≡ operands
Numbered mark most words (Some number) operands = (numeral : List ℕ) × (words ≡ mark ∷ numeral ∷ operands) × IsNumeral most numeral number
