-- The front of a text: what separates tokens, and where none that is a mark begins.
use Rattle.std.specs.Prelude.{◌≡◌, ℕ, Bool, not, List, ◌∷◌, ◌++◌, IsTrue, encode_utf8}
use Rattle.tc_base.specs.Characters.{is_white}
use Rattle.tc_model.specs.CompactSyntaxTokens.{is_line_end, after_line, is_mark}

abbrev pub is_in_line : ℕ → Bool
is_in_line b = not (is_line_end b)

-- white space and comments stand before the rest
pub data Skips : List ℕ → List ℕ → Type 0 where
  nothing : {bs : List ℕ} → Skips bs bs
  white : {b : ℕ} {bs rest : List ℕ} → IsTrue (is_white b) → Skips bs rest → Skips (b ∷ bs) rest
  comment : {bs rest : List ℕ} → Skips (after_line bs) rest → Skips (0x23 ∷ bs) rest

-- neither a backslash nor a character that stands for itself stands here
pub record IsNoMark (bs : List ℕ) : Type 0 where
  pub no_backslash : (r : List ℕ) → bs ≡ 0x5C ∷ r → ⊥
  pub no_mark : (c : ℕ) (r : List ℕ) → bs ≡ encode_utf8 c ++ r → IsTrue (is_mark c) → ⊥
