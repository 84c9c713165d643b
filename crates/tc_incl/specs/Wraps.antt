-- What is known of elements around one list of trees, by the kinds of their symbols.
use Rattle.std.specs.Prelude.{◌≡◌, ◌<◌, ℕ, List, Option, Some, slice_get}
use Rattle.tc_settle.specs.Held.{Held}
use Rattle.tc_settle.specs.Wraps.{IsKnown, IsWrapTold}
use Rattle.tc_settle.specs.declared.wraps.Wraps.{Wraps}

-- what is known is so for each symbol of the kind
abbrev pub AreKnown : Held → List ℕ → Wraps → Type 0
AreKnown s kinds w = (a h k : ℕ) (made : Option ℕ) → slice_get kinds a ≡ Some k → IsKnown w h k made → (a < s.symbols) × (h < s.hedges) × IsWrapTold s a h made
