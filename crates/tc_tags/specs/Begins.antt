-- What stands at a `<` (XML 1.0, Fifth Edition, 3, [39]; 3.1, [43]).
use Rattle.std.specs.Prelude.{◌≡◌, ◌≢◌, ℕ, List, ◌∷◌}

-- a tag or nothing may begin here, and no comment, processing instruction or CDATA section does
pub record BeginsTag (bs : List ℕ) : Type 0 where
  pub next : ℕ
  pub rest : List ℕ
  pub opens : bs ≡ 0x3C ∷ (next ∷ rest)
  pub no_mark : next ≢ 0x21
  pub no_instruction : next ≢ 0x3F
