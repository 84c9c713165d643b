-- Which named bodies a body calls, and an order in which each named body comes after those that it calls.
use Rattle.std.specs.Prelude.{◌≡◌, ◌<◌, ℕ, List, [], ◌∷◌, ◌++◌, length, Some, slice_get}
use Rattle.std.specs.List.{Contains}
use Rattle.tc_model.specs.Sheets.{Body, no_instruction, put_text, put_element, copy, apply, call, for_each, value, value_of_self, choose, Branches, otherwise, branch}

abbrev mutual
  pub callees_in : Body → List ℕ
  callees_in no_instruction = []
  callees_in (put_text x b) = callees_in b
  callees_in (put_element n inner b) = callees_in inner ++ callees_in b
  callees_in (copy inner b) = callees_in inner ++ callees_in b
  callees_in (apply p m b) = callees_in b
  callees_in (call n b) = n ∷ callees_in b
  callees_in (value p b) = callees_in b
  callees_in (value_of_self b) = callees_in b
  callees_in (choose x b) = callees_in_branches x ++ callees_in b
  callees_in (for_each e p inner b) = callees_in inner ++ callees_in b

  pub callees_in_branches : Branches → List ℕ
  callees_in_branches (otherwise b) = callees_in b
  callees_in_branches (branch t b x) = callees_in b ++ callees_in_branches x

-- each named body stands in the order, after those that it calls
pub record AreCalleesFirst (named : List Body) (order : List ℕ) : Type 0 where
  pub within : (i n : ℕ) → slice_get order i ≡ Some n → n < length named
  pub all : (n : ℕ) → n < length named → (i : ℕ) × (slice_get order i ≡ Some n)
  pub before : (i n m : ℕ) (b : Body) → slice_get order i ≡ Some n → slice_get named n ≡ Some b → Contains (callees_in b) m → (j : ℕ) × (j < i) × (slice_get order j ≡ Some m)
