-- Lines in the order of their bytes, by their places.
use Rattle.std.specs.Prelude.{◌≡◌, ◌<◌, ◌≤◌, ℕ, List, [], length, map, get_or, All, Some, slice_get}
use Rattle.std.specs.List.{Contains}
use Rattle.std.specs.Global.{Vec}
use Rattle.tc_model.specs.CertificateData.{AreOrdered}
use Rattle.tc_rows.specs.Counts.{AreDifferent}

-- the lines of these places
abbrev pub lines_at : List (List ℕ) → List ℕ → List (List ℕ)
lines_at lines places = map (λ p. get_or lines p []) places

-- numbers below a count, no more than a number counts
abbrev pub AreBelow : ℕ → List ℕ → Type 0
AreBelow count numbers = All (λ n. n < count) numbers × (length numbers ≤ 4294967295)

-- all places, in the order of their lines
pub record IsOrder (lines : List (List ℕ)) (places : List ℕ) : Type 0 where
  pub count : length places ≡ length lines
  pub within : All (λ p. p < length lines) places
  pub each : (p : ℕ) → p < length lines → Contains places p
  pub ascend : AreDifferent lines → AreOrdered (lines_at lines places)

abbrev pub line_of : Vec ℕ × ℕ → List ℕ
line_of l = l.0.items

-- each line stands beside the number of its place
abbrev pub ArePlaced : List (Vec ℕ × ℕ) → Type 0
ArePlaced lines = (length lines ≤ 4294967295) × ((i : ℕ) (l : Vec ℕ × ℕ) → slice_get lines i ≡ Some l → l.1 ≡ i)

-- each of these numbers has its place among them as its rank
abbrev pub AreRanks : List ℕ → List ℕ → Type 0
AreRanks numbers ranks = (n : ℕ) → Contains numbers n → (get_or ranks n 0 < length numbers) × (get_or numbers (get_or ranks n 0) 0 ≡ n)

-- numbers by their ranks
abbrev pub ranked : List ℕ → List ℕ → List ℕ
ranked ranks numbers = map (λ n. get_or ranks n 0) numbers
