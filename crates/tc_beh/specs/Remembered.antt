-- The products that are remembered of sets that are held, and the one that leads each state to itself.
use Rattle.std.specs.Prelude.{◌≡◌, ◌<◌, ℕ, List, [], length, get_or, Option, All, IfSome}
use Rattle.tc_mat.specs.Matrix.{Matrix, IsIdentity, IsComposition}
use Rattle.tc_mat.specs.Held.{Held}
use Rattle.tc_beh.specs.declared.products.Product.{Product}

-- the set of a number
abbrev of_number : Held → ℕ → Matrix
of_number h k = get_or h.matrices k (record { size = 0; words = [] })

-- a number is that of the set of each state with itself
pub record IsNothing (h : Held) (k : ℕ) : Type 0 where
  pub low : k < length h.matrices
  pub is : IsIdentity (of_number h k)
  pub size : (of_number h k).size ≡ h.size

-- three sets that are held: the last one leads by the first and then by the second
pub record IsProduct (h : Held) (first second product : ℕ) : Type 0 where
  pub first_low : first < length h.matrices
  pub second_low : second < length h.matrices
  pub low : product < length h.matrices
  pub pairs : IsComposition (of_number h first) (of_number h second) (of_number h product)

-- each is the product of the two sets
abbrev pub AreRemembered : Held → List (Option Product) → Type 0
AreRemembered h ps = All (λ o. IfSome o (λ p. IsProduct h p.first p.second p.product)) ps
