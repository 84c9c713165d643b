-- The bytes of an XML text: white space, runs, what stands before a mark, literals. The text is in UTF-8 and every mark is ASCII,
-- so no byte of a longer character is ever taken for a mark.
use Rattle.std.specs.Prelude.{◌≡◌, ℕ, ◌+◌, ◌-◌, ◌<◌, Bool, ◌==◌, ◌⊎◌, List, [], ◌∷◌, ◌++◌, take, drop, length, bytes_eq, encode_utf8, IsTrue, if◌then◌else◌}
use Rattle.std.specs.List.{prefix_len}
use Rattle.tc_base.specs.Characters.{is_char, is_white}
use Rattle.tc_model.specs.Names.{IsChars}

-- the characters at the front of the bytes, as many as there are (XML, 2.2, [2] Char)
pub record FrontOf (bytes front : List ℕ) : Type 0 where
  pub after : List ℕ
  pub parts : bytes ≡ front ++ after
  pub characters : IsChars front
  pub longest : (c : ℕ) (r : List ℕ) → after ≡ encode_utf8 c ++ r → IsTrue (is_char c) → ⊥

-- where these bytes stand at the end of a text of so many bytes: how many bytes stand before them
abbrev pub place_of : ℕ → List ℕ → ℕ
place_of total bs = total - length bs

-- the longest run of such bytes at the front, at least one, and what follows it
pub record RunAt (test : ℕ → Bool) (bs run after : List ℕ) : Type 0 where
  pub some : 0 < prefix_len test bs
  pub front : run ≡ take (prefix_len test bs) bs
  pub back : after ≡ drop (prefix_len test bs) bs

-- white space stands at the front (XML, 2.3, [3] S)
abbrev pub BeginsWithWhite : List ℕ → Type 0
BeginsWithWhite bs = 0 < prefix_len is_white bs

-- what follows the white space at the front, if there is some
abbrev pub after_white : List ℕ → List ℕ
after_white bs = drop (prefix_len is_white bs) bs

-- this mark stands at the front
abbrev pub begins_with : List ℕ → List ℕ → Bool
begins_with mark bs = bytes_eq mark (take (length mark) bs)

-- how many bytes stand before the first such mark; all, where there is none
abbrev pub length_before : List ℕ → List ℕ → ℕ
length_before mark [] = 0
length_before mark (b ∷ bs) = if begins_with mark (b ∷ bs) then 0 else 1 + length_before mark bs

abbrev pub Lacks : List ℕ → List ℕ → Type 0
Lacks mark bs = length_before mark bs ≡ length bs

-- what stands before the first such mark, and what follows the mark
pub record UpTo (mark bs inside after : List ℕ) : Type 0 where
  pub front : inside ≡ take (length_before mark bs) bs
  pub back : drop (length_before mark bs) bs ≡ mark ++ after

-- a double or a single quote
abbrev pub IsQuote : ℕ → Type 0
IsQuote q = (q ≡ 0x22) ⊎ (q ≡ 0x27)

-- a literal in quotes, which holds any character but its quote (XML, 2.3, [11], and [12] without its restriction to PubidChar; the quotes of 2.8, [24]; 2.9, [32]; 4.3.3, [80])
pub record LiteralAt (bs value after : List ℕ) : Type 0 where
  pub quote : ℕ
  pub rest : List ℕ
  pub is_quote : IsQuote quote
  pub opens : bs ≡ quote ∷ rest
  pub closes : UpTo (quote ∷ []) rest value after

-- an equals sign, with white space around it or not (XML, 2.8, [25] Eq)
pub record EqualsAt (bs after : List ℕ) : Type 0 where
  pub rest : List ℕ
  pub sign : after_white bs ≡ 0x3D ∷ rest
  pub past : after ≡ after_white rest

-- each line end, which is CR LF, CR or LF, read as LF (XML, 2.11). XML reads them so before anything else, here what is kept of a text: the same, since no run ends between CR and LF, and `&#13;` stays
abbrev pub line_ends : List ℕ → List ℕ
line_ends [] = []
line_ends (b ∷ bs) = if b == 0xD then (if begins_with (0xA ∷ []) bs then line_ends bs else 0xA ∷ line_ends bs) else b ∷ line_ends bs
