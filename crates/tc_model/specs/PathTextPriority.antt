-- The text of a priority (XSLT 1.0, 5.5; XPath 1.0, 3.7, [30] Number), with at most six digits before the point and four behind it.
use Rattle.std.specs.Prelude.{◌≡◌, ◌<◌, ◌≤◌, ◌+◌, ◌*◌, ◌-◌, ◌^◌, ℕ, ℤ, pos, neg_ℤ, List, [], ◌∷◌, length, take}
use Rattle.std.specs.List.{prefix_len}
use Rattle.std.specs.Str.Parse.{digits_value}
use Rattle.tc_model.specs.XmlTextBytes.{after_white}
use Rattle.tc_model.specs.PathTextTokens.{is_digit, after_digits}

-- the digits at the front
abbrev pub digits_before : List ℕ → List ℕ
digits_before bs = take (prefix_len is_digit bs) bs

-- a point and digits, perhaps none; or nothing
pub data FractionAt : List ℕ → List ℕ → List ℕ → Type 0 where
  no_point : {bs : List ℕ} → ((r : List ℕ) → bs ≡ 0x2E ∷ r → ⊥) → FractionAt bs [] bs
  a_point : {r : List ℕ} → FractionAt (0x2E ∷ r) (digits_before r) (after_digits r)

-- digits and a fraction up to the end, in ten-thousandths
pub record Unsigned (bs : List ℕ) (value : ℕ) : Type 0 where
  pub fraction : List ℕ
  pub end : List ℕ
  pub fraction_at : FractionAt (after_digits bs) fraction end
  pub ends : after_white end ≡ []
  pub some : 0 < length (digits_before bs) + length fraction
  pub whole_digits : length (digits_before bs) ≤ 6
  pub fraction_digits : length fraction ≤ 4
  pub is_value : value ≡ digits_value 10 (digits_before bs) * 10000 + digits_value 10 fraction * 10 ^ (4 - length fraction)

-- a priority in ten-thousandths, with white space around it and behind its sign
pub data PriorityText : List ℕ → ℤ → Type 0 where
  positive : {text : List ℕ} {value : ℕ} → ((r : List ℕ) → after_white text ≡ 0x2D ∷ r → ⊥) → Unsigned (after_white text) value → PriorityText text (pos value)
  negative : {text rest : List ℕ} {value : ℕ} → after_white text ≡ 0x2D ∷ rest → Unsigned (after_white rest) value → PriorityText text (neg_ℤ (pos value))
