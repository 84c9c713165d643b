-- What is known of elements around lists of trees, of which those that nothing tells apart are worked out once.
use Rattle.std.specs.Prelude.{◌≡◌, ◌<◌, ℕ, List, length}
use Rattle.tc_rows.specs.Triples.{Triple}
use Rattle.tc_beh.specs.AlikeSymbols.{AreFirstAlike}
use Rattle.tc_settle.specs.Held.{Held, IsWrapAt}
use Rattle.tc_close.specs.LookFree.{AreFreeSymbols}
use Rattle.tc_close.specs.NumberTables.{HasNumber}
use Rattle.tc_close.specs.declared.look_free.FreeSymbols.{FreeSymbols}
use Rattle.tc_close.specs.declared.number_table.NumberTable.{NumberTable}
use Rattle.tc_close.specs.RowState.{RowState, held_of}

-- what is known of live elements is so
abbrev pub AreKnown : Held → NumberTable → Type 0
AreKnown s w = (a h u : ℕ) → HasNumber w.places.items a h u → (a < s.symbols) × (h < s.hedges) × IsWrapAt s a h u

-- of each symbol the first that is alike, which symbols read no look, and what is known of rows
pub record AreOnce (IsOf : Triple → Type 0) (s : RowState) (firsts : List ℕ) (f : FreeSymbols) (w : NumberTable) : Type 0 where
  pub some : (x : Triple) × IsOf x
  pub count : length firsts ≡ s.symbols
  pub alike : (x : Triple) → IsOf x → AreFirstAlike x firsts
  pub free : (x : Triple) → IsOf x → AreFreeSymbols x f
  pub known : AreKnown (held_of IsOf s) w
