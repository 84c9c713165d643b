-- What is known of elements around one list of trees.
use Rattle.std.specs.Prelude.{◌≡◌, ℕ, Option, Some, slice_get, MatchOption}
use Rattle.tc_settle.specs.Held.{Held, IsWrapAt}
use Rattle.tc_settle.specs.declared.wraps.Wraps.{Wraps}

-- the number of the row of an element of this symbol, or of this kind of symbols, around this list; none where it is dead
abbrev pub IsKnown : Wraps → ℕ → ℕ → Option ℕ → Type 0
IsKnown w h a made = (w.hedge ≡ h) × (slice_get w.made.items a ≡ Some made)

-- an element of this symbol around this list has the row of this number; it is dead
abbrev pub IsWrapTold : Held → ℕ → ℕ → Option ℕ → Type 0
IsWrapTold s a h made = MatchOption made (s.no_wrap a h) (λ u. IsWrapAt s a h u)
