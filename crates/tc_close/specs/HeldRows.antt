-- What holds of rows that are held, and of the rooms in which they are worked out.
use Rattle.std.specs.Prelude.{◌≡◌, ℕ, List, Bool, false}
use Rattle.tc_model.specs.Symbols.{symbol_count}
use Rattle.tc_mat.specs.Held as mat
use Rattle.tc_rows.specs.Triples.{Triple}
use Rattle.tc_beh.specs.Machines.{IsMachineOf}
use Rattle.tc_beh.specs.Rooms.{hedge_layout, tree_layout}
use Rattle.tc_beh.specs.RoomsOf.{IsRoomOf}
use Rattle.tc_beh.specs.RowsOf.{AreRowsOf}
use Rattle.tc_beh.specs.declared.rows.Rows.{Rows}
use Rattle.tc_close.specs.Appends.{AreTold}
use Rattle.tc_close.specs.Kinds.{AreTrue}
use Rattle.tc_close.specs.declared.appends.Appends.{Appends}
use Rattle.tc_close.specs.declared.kinds.Kinds.{Kinds}
use Rattle.tc_close.specs.declared.rooms.Rooms.{Rooms}
use Rattle.tc_close.specs.RowState.{RowState, AreGood}

pub record AreRoomsOf (x : Triple) (r : Rooms) : Type 0 where
  pub hedge : IsRoomOf (hedge_layout x) r.hedge.room
  pub tree : IsRoomOf (tree_layout x) r.tree.room
  pub new_hedge : IsRoomOf (hedge_layout x) r.new_hedge.room
  pub new_tree : IsRoomOf (tree_layout x) r.new_tree.room

abbrev pub state_of : Rows → List (List ℕ) → List (List ℕ) → Bool → RowState
state_of r hedges trees is_whole = record { symbols = symbol_count r.machine.now.alphabet; outputs = r.outputs; hedges = hedges; trees = trees; is_whole = is_whole }

-- the machine stands for these triples, of which there is one, and over each triple that it stands for all numbers are those of rows
pub record AreHeld (IsOf : Triple → Type 0) (r : Rows) (s : RowState) (work : Rooms) : Type 0 where
  pub some : (x : Triple) × IsOf x
  pub over : (x : Triple) → IsOf x → IsMachineOf x r.machine.now
  pub stand : (x : Triple) → IsMachineOf x r.machine.now → AreRowsOf x r
  pub free : r.is_fixed ≡ false
  pub good : (x : Triple) → IsMachineOf x r.machine.now → AreGood x s
  pub rooms : (x : Triple) → IsMachineOf x r.machine.now → AreRoomsOf x work

-- what is known of kinds and of appends is true
pub record AreKnown (IsOf : Triple → Type 0) (o : mat.Held) (hedges trees : List (List ℕ)) (k : Kinds) (a : Appends) : Type 0 where
  pub kinds : AreTrue IsOf hedges trees k
  pub appends : AreTold IsOf o hedges trees a
