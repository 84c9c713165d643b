-- The edges of rows by what they take.
use Rattle.std.specs.Prelude.{◌≡◌, ◌<◌, ◌↔◌, ◌⊎◌, ℕ, zero, suc, List, Vec, All, Some, slice_get}
use Rattle.std.specs.List.{Contains}
use Rattle.tc_auto.specs.declared.auto.Edge.{Edge}
use Rattle.tc_auto.specs.declared.auto.Leaf.{Leaf}
use Rattle.tc_auto.specs.declared.auto.Leaf.TheVariants.{Text, Ref}
use Rattle.tc_auto.specs.declared.arrows.Arrow.{Arrow}
use Rattle.tc_auto.specs.declared.rows.Row.{Row}

-- a list has what another has, and what is gained
abbrev pub Gains : List Arrow → List Arrow → (Arrow → Type 0) → Type 0
Gains old new Gained = (a : Arrow) → Contains new a ↔ (Contains old a ⊎ Gained a)

-- it is this edge of a state, and takes what the leaf does
abbrev pub IsSome : ℕ → Edge → Leaf → Arrow → Type 0
IsSome from edge leaf a = (from ≡ a.from) × (edge ≡ record { to = a.to; leaf = leaf })

-- it is one of these edges of a state, and takes what the leaf does
abbrev pub IsFrom : ℕ → List Edge → Leaf → Arrow → Type 0
IsFrom from edges leaf a = (from ≡ a.from) × Contains edges (record { to = a.to; leaf = leaf })

-- it is an edge of the rows, and takes what the leaf does
abbrev pub IsArrow : List Row → Leaf → Arrow → Type 0
IsArrow rows leaf a = (row : Row) × (slice_get rows a.from ≡ Some row) × Contains row.edges.items (record { to = a.to; leaf = leaf })

abbrev pub AreArrowsOf : List Row → Leaf → List Arrow → Type 0
AreArrowsOf rows leaf arrows = (a : Arrow) → Contains arrows a ↔ IsArrow rows leaf a

-- what stands at a place: texts, and then each element pattern
abbrev pub leaf_at : ℕ → Leaf
leaf_at zero = Text
leaf_at (suc k) = Ref (suc k)

abbrev pub AreArrows : {Z : Type 0} → List Row → List (Vec Arrow Z) → Type 0
AreArrows {Z} rows all = (k : ℕ) (v : Vec Arrow Z) → slice_get all k ≡ Some v → AreArrowsOf rows (leaf_at k) v.items

-- each leads from a state to a state
abbrev pub AreWithin : ℕ → List Arrow → Type 0
AreWithin states arrows = All (λ a. (a.from < states) × (a.to < states)) arrows
