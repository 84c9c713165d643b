-- Symbols that no class of two schemas tells apart: elements of them around the same trees have the same rows.
use Rattle.std.specs.Prelude.{◌≡◌, ◌↔◌, ℕ, List, Some, slice_get}
use Rattle.tc_model.specs.Grammars.{Grammar}
use Rattle.tc_model.specs.Symbols.{Mention, fresh_name}
use Rattle.tc_sets.specs.Numbers.{Numbers, HaveSameNumbers}
use Rattle.tc_incl.specs.Schemas.{Schemas}
use Rattle.tc_incl.specs.Rows.{HedgeRow, TreeRow}
use Rattle.tc_incl.specs.Arithmetic.{IsWrap, IsLiveWrap}
use Rattle.tc_incl.specs.Sides.{IsAllowed}

-- the same classes of a schema hold both symbols
abbrev pub AreInSameClasses : Grammar → List Mention → ℕ → ℕ → Type 0
AreInSameClasses g symbols a b = (k : ℕ) → IsAllowed g (fresh_name symbols a) k ↔ IsAllowed g (fresh_name symbols b) k

-- those of both schemas
pub record AreAlike (x : Schemas) (a b : ℕ) : Type 0 where
  pub first : AreInSameClasses x.first x.symbols a b
  pub second : AreInSameClasses x.second x.symbols a b

-- they wrap alike
abbrev pub AlikeWrapAlike : Type 0
AlikeWrapAlike = (x : Schemas) (a b : ℕ) → AreAlike x a b → (h : HedgeRow) → ((u : TreeRow) → IsWrap x a h u → IsWrap x b h u) × (IsLiveWrap x a h → IsLiveWrap x b h)

-- a set has the numbers of the set at a place
abbrev pub IsCopyAt : List Numbers → ℕ → Numbers → Type 0
IsCopyAt sets a r = (s : Numbers) → slice_get sets a ≡ Some s → HaveSameNumbers r s

-- the sets at two places have the same numbers
abbrev pub HaveSameAt : List Numbers → ℕ → ℕ → Type 0
HaveSameAt sets a b = (s t : Numbers) → slice_get sets a ≡ Some s → slice_get sets b ≡ Some t → HaveSameNumbers s t

-- symbols have kinds, and those of one kind have the same sets of each schema
abbrev pub AreKinds : List Numbers → List Numbers → List ℕ → Type 0
AreKinds first second kinds = (a b k : ℕ) → slice_get kinds a ≡ Some k → slice_get kinds b ≡ Some k → HaveSameAt first a b × HaveSameAt second a b
