-- What rooms over one set of what is held have in common.
use Rattle.std.specs.Prelude.{◌≡◌, ◌↔◌, ℕ, List}
use Rattle.tc_mat.specs.Held.{Held, AreDifferent}
use Rattle.tc_rows.specs.Triples.{Triple}
use Rattle.tc_beh.specs.Held.{Extends}
use Rattle.tc_beh.specs.Rooms.{hedge_layout, tree_layout, IsRoom, hedge_row, tree_row}

pub record RoomsAreLawful : Type 0 where
  -- rows are equal exactly where their numbers are
  pub hedges : (x : Triple) (h : Held) (ns ms : List ℕ) → AreDifferent h → IsRoom (hedge_layout x) h.matrices ns → IsRoom (hedge_layout x) h.matrices ms
      → (hedge_row x h.matrices ns ≡ hedge_row x h.matrices ms) ↔ (ns ≡ ms)
  pub trees : (x : Triple) (h : Held) (ns ms : List ℕ) → AreDifferent h → IsRoom (tree_layout x) h.matrices ns → IsRoom (tree_layout x) h.matrices ms
      → (tree_row x h.matrices ns ≡ tree_row x h.matrices ms) ↔ (ns ≡ ms)
  -- what stands for a row goes on doing so where more is held
  pub hedges_stand : (x : Triple) (old new : Held) (ns : List ℕ) → Extends old new → IsRoom (hedge_layout x) old.matrices ns
      → IsRoom (hedge_layout x) new.matrices ns × (hedge_row x new.matrices ns ≡ hedge_row x old.matrices ns)
  pub trees_stand : (x : Triple) (old new : Held) (ns : List ℕ) → Extends old new → IsRoom (tree_layout x) old.matrices ns
      → IsRoom (tree_layout x) new.matrices ns × (tree_row x new.matrices ns ≡ tree_row x old.matrices ns)
