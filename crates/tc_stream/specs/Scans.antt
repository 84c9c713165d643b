-- What has no bound in a text goes byte by byte: a comment, a processing instruction, a CDATA section, character data. Whether it has ended in some
-- bytes, and what is known of it there (XML 1.0, Fifth Edition, 2.4 to 2.7).
use Rattle.std.specs.Prelude.{ℕ, ◌==◌, List, [], ◌∷◌, Option, None, Some, if◌then◌else◌}

pub data Scan : Type 0 where
  -- it ends, and these bytes follow
  before : List ℕ → Scan
  -- it goes on, and so many of its last bytes may belong to its end
  going : ℕ → Scan
  -- it can't go on
  broken : Scan

-- behind `<!--`, where so many hyphens were the last
abbrev pub comment_scan : ℕ → List ℕ → Scan
comment_scan hyphens [] = going hyphens
comment_scan hyphens (b ∷ bs) =
    if hyphens == 2 then (if b == 0x3E then before bs else broken)
    else (if b == 0x2D then comment_scan (if hyphens == 0 then 1 else 2) bs else comment_scan 0 bs)

-- behind the target of a processing instruction, where a question mark was the last (1) or wasn't (0)
abbrev pub instruction_scan : ℕ → List ℕ → Scan
instruction_scan question [] = going question
instruction_scan question (b ∷ bs) =
    if b == 0x3F then instruction_scan 1 bs
    else (if b == 0x3E then (if question == 1 then before bs else instruction_scan 0 bs) else instruction_scan 0 bs)

-- behind `<![CDATA[`, where so many closing brackets, at most two, were the last
abbrev pub cdata_scan : ℕ → List ℕ → Scan
cdata_scan brackets [] = going brackets
cdata_scan brackets (b ∷ bs) =
    if b == 0x5D then cdata_scan (if brackets == 0 then 1 else 2) bs
    else (if b == 0x3E then (if brackets == 2 then before bs else cdata_scan 0 bs) else cdata_scan 0 bs)

-- a tag, byte by byte from its `<` on: it ends at the first `>` out of quotes, and these bytes follow, or goes on within this quote or none
pub data TagScan : Type 0 where
  ended : List ℕ → TagScan
  quoted : Option ℕ → TagScan

abbrev pub tag_scan : Option ℕ → List ℕ → TagScan
tag_scan quote [] = quoted quote
tag_scan None (b ∷ bs) =
    if b == 0x3E then ended bs else (if b == 0x22 then tag_scan (Some b) bs else (if b == 0x27 then tag_scan (Some b) bs else tag_scan None bs))
tag_scan (Some q) (b ∷ bs) = if b == q then tag_scan None bs else tag_scan (Some q) bs
