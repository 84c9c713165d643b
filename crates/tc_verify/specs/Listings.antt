-- Rows that are listed by their numbers, over sets of pairs that stay.
use Rattle.std.specs.Prelude.{◌≡◌, ◌↔◌, ◌⊎◌, ℕ, List, map}
use Rattle.std.specs.List.{Contains}
use Rattle.tc_mat.specs.Held.{Held}
use Rattle.tc_rows.specs.Triples.{Triple}
use Rattle.tc_rows.specs.Rows.{HedgeRow, TreeRow}
use Rattle.tc_beh.specs.Machines.{IsMachineOf}
use Rattle.tc_beh.specs.Rooms.{hedge_row, tree_row}
use Rattle.tc_beh.specs.declared.machine.Machine.{Machine}
use Rattle.tc_verify.specs.Rules as r

pub record Listing : Type 0 where
  pub machine : Machine
  pub sets : Held
  -- the numbers of the rows of lists of trees, and of those of trees
  pub hedges : List (List ℕ)
  pub trees : List (List ℕ)

-- what holds for each triple that the machine is of
abbrev pub Each : Listing → (Triple → Type 0) → Type 0
Each l P = (x : Triple) → IsMachineOf x l.machine → P x

-- the rows that are meant
abbrev pub hedge_rows : Listing → Triple → List HedgeRow
hedge_rows l x = map (hedge_row x l.sets.matrices) l.hedges

abbrev pub tree_rows : Listing → Triple → List TreeRow
tree_rows l x = map (tree_row x l.sets.matrices) l.trees

-- a rule holds, and a rule is broken
module _ (l : Listing) where
  unfoldable pub EmptyHolds : Type 0
  EmptyHolds = Each l (λ x. r.IsEmptyListed x (hedge_rows l x))

  unfoldable pub EmptyBreaks : Type 0
  EmptyBreaks = Each l (λ x. ¬ r.IsEmptyListed x (hedge_rows l x))

  unfoldable pub TextHolds : Type 0
  TextHolds = Each l (λ x. r.IsTextListed x (tree_rows l x))

  unfoldable pub TextBreaks : Type 0
  TextBreaks = Each l (λ x. ¬ r.IsTextListed x (tree_rows l x))

  unfoldable pub AppendHolds : ℕ → ℕ → Type 0
  AppendHolds i j = Each l (λ x. r.AppendIsListed x (tree_rows l x) (hedge_rows l x) i j)

  unfoldable pub AppendBreaks : ℕ → ℕ → Type 0
  AppendBreaks i j = Each l (λ x. ¬ r.AppendIsListed x (tree_rows l x) (hedge_rows l x) i j)

  unfoldable pub WrapHolds : ℕ → ℕ → Type 0
  WrapHolds i a = Each l (λ x. r.WrapIsListed x (tree_rows l x) (hedge_rows l x) i a)

  unfoldable pub WrapBreaks : ℕ → ℕ → Type 0
  WrapBreaks i a = Each l (λ x. ¬ r.WrapIsListed x (tree_rows l x) (hedge_rows l x) i a)

  unfoldable pub RootHolds : ℕ → Type 0
  RootHolds j = Each l (λ x. r.RootIsGood x (tree_rows l x) (hedge_rows l x) j)

  unfoldable pub RootBreaks : ℕ → Type 0
  RootBreaks j = Each l (λ x. ¬ r.RootIsGood x (tree_rows l x) (hedge_rows l x) j)

-- these lists and one more
abbrev pub HasMore : List (List ℕ) → List (List ℕ) → List ℕ → Type 0
HasMore old new numbers = (ns : List ℕ) → Contains new ns ↔ (Contains old ns ⊎ (ns ≡ numbers))
