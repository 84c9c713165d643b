-- References, character data and attribute values in an XML text (XML 1.0, Fifth Edition, 2.3, 2.4, 3.3.3, 4.1).
use Rattle.std.specs.Prelude.{◌≡◌, ℕ, Bool, ◌||◌, not, ◌==◌, List, [], ◌∷◌, ◌++◌, map, Option, None, Some, IsTrue, bytes_eq, encode_utf8, codes, nat_lt, if◌then◌else◌}
use Rattle.std.specs.Char.{digit_value}
use Rattle.std.specs.Str.Parse.{digits_value}
use Rattle.tc_base.specs.Characters.{is_char}
use Rattle.tc_model.specs.XmlTextBytes.{RunAt, Lacks, UpTo, IsQuote, line_ends}
use Rattle.tc_model.specs.XmlTextNames.{NcNameAt}

-- the character of a predefined entity (XML, 4.6)
abbrev pub predefined : List ℕ → Option ℕ
predefined name =
    if bytes_eq name (codes "lt") then Some 0x3C
    else (if bytes_eq name (codes "gt") then Some 0x3E
    else (if bytes_eq name (codes "amp") then Some 0x26
    else (if bytes_eq name (codes "apos") then Some 0x27
    else (if bytes_eq name (codes "quot") then Some 0x22 else None))))

-- a digit of this base, a lowercase or uppercase letter above nine
abbrev pub is_digit : ℕ → ℕ → Bool
is_digit base b = nat_lt (digit_value b) base

-- an entity reference: its name, and what follows it (XML, 4.1, [68]; Namespaces, 7)
pub record EntityAt (bs name after : List ℕ) : Type 0 where
  pub rest : List ℕ
  pub opens : bs ≡ 0x26 ∷ rest
  pub names : NcNameAt rest name (0x3B ∷ after)

-- A character reference ([66]) or a reference to a predefined entity ([68]) at the front (XML, 4.1, [67]), the text for which it stands, and what follows it.
-- Where `others` says so, a reference to any other entity is read too, and stands for `<`, as `&lt;` in its place would.
pub data ReferenceAt (others : Bool) : List ℕ → List ℕ → List ℕ → Type 0 where
  decimal : {rest digits after : List ℕ} → RunAt (is_digit 10) rest digits (0x3B ∷ after) → IsTrue (is_char (digits_value 10 digits))
      → ReferenceAt others (codes "&#" ++ rest) (encode_utf8 (digits_value 10 digits)) after
  hexadecimal : {rest digits after : List ℕ} → RunAt (is_digit 16) rest digits (0x3B ∷ after) → IsTrue (is_char (digits_value 16 digits))
      → ReferenceAt others (codes "&#x" ++ rest) (encode_utf8 (digits_value 16 digits)) after
  entity : {bs name after : List ℕ} {c : ℕ} → EntityAt bs name after → predefined name ≡ Some c → ReferenceAt others bs (c ∷ []) after
  other : {bs name after : List ℕ} → IsTrue others → EntityAt bs name after → predefined name ≡ None → ReferenceAt others bs (0x3C ∷ []) after

abbrev pub is_plain : ℕ → Bool
is_plain b = not (b == 0x3C || b == 0x26)

-- the longest run of characters but `<` and `&`, in which `]]>` doesn't stand (XML, 2.4, [14] CharData)
pub record CharacterDataAt (bs run after : List ℕ) : Type 0 where
  pub plain : RunAt is_plain bs run after
  pub lacks_end : Lacks (codes "]]>") run

-- a CDATA section: what stands in it (XML, 2.7, [18] to [21])
pub record CdataAt (bs inside after : List ℕ) : Type 0 where
  pub rest : List ℕ
  pub opens : bs ≡ codes "<![CDATA[" ++ rest
  pub closes : UpTo (codes "]]>") rest inside after

-- tabs and line feeds as spaces (XML, 3.3.3)
abbrev pub spaced : List ℕ → List ℕ
spaced bs = map (λ b. if b == 0x9 || b == 0xA then 0x20 else b) bs

abbrev pub is_plain_within : ℕ → ℕ → Bool
is_plain_within quote b = not (b == quote || b == 0x3C || b == 0x26)

-- what stands up to the quote that closes an attribute value, normalised, and what follows that quote (XML, 2.3, [10]; No < in Attribute Values, 3.1; normalised by 3.3.3)
pub data ValueAt (others : Bool) (quote : ℕ) : List ℕ → List ℕ → List ℕ → Type 0 where
  closed : {bs after : List ℕ} → bs ≡ quote ∷ after → ValueAt others quote bs [] after
  plain : {bs run rest value after : List ℕ} → RunAt (is_plain_within quote) bs run rest → ValueAt others quote rest value after
      → ValueAt others quote bs (spaced (line_ends run) ++ value) after
  reference : {bs text rest value after : List ℕ} → ReferenceAt others bs text rest → ValueAt others quote rest value after
      → ValueAt others quote bs (text ++ value) after

-- a quoted attribute value (XML, 2.3, [10] AttValue)
pub record QuotedAt (others : Bool) (bs value after : List ℕ) : Type 0 where
  pub quote : ℕ
  pub rest : List ℕ
  pub is_quote : IsQuote quote
  pub opens : bs ≡ quote ∷ rest
  pub closes : ValueAt others quote rest value after
