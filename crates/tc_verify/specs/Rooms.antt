-- Rooms of the rows of a certificate's lines.
use Rattle.std.specs.Prelude.{◌≡◌, ◌↔◌, ℕ, List, length, map, slice_get, Some}
use Rattle.std.specs.List.{Contains}
use Rattle.tc_mat.specs.Held.{Held}
use Rattle.tc_rows.specs.Triples.{Triple}
use Rattle.tc_rows.specs.Rows.{IsHedgeRow, IsTreeRow}
use Rattle.tc_beh.specs.Machines.{IsMachineOf}
use Rattle.tc_beh.specs.Rooms.{hedge_layout, tree_layout, IsRoom, hedge_row, tree_row}
use Rattle.tc_beh.specs.RoomsOf.{IsRoomOf}
use Rattle.tc_beh.specs.Lines.{IsLine, AreFlags}
use Rattle.tc_beh.specs.declared.machine.Machine.{Machine}
use Rattle.tc_beh.specs.declared.rooms.HRow.{HRow}
use Rattle.tc_beh.specs.declared.rooms.TRow.{TRow}
use Rattle.tc_model.specs.declared.lists.TreeLine.{TreeLine}
use Rattle.tc_model.specs.declared.lists.HedgeLine.{HedgeLine}
use Rattle.tc_model.specs.declared.lists.CertData.{CertData}

-- the room of the line at a place
pub record IsReadHedge (m : Machine) (c : CertData) (place : ℕ) (h : HRow) : Type 0 where
  pub parted : (x : Triple) → IsMachineOf x m → IsRoomOf (hedge_layout x) h.room
  pub flags : AreFlags h.room
  pub line : (l : HedgeLine) → slice_get c.hedges place ≡ Some l → IsLine 0 h.room l.ends l.bears l.states l.outs l.looks

pub record IsReadTree (m : Machine) (c : CertData) (place : ℕ) (t : TRow) : Type 0 where
  pub parted : (x : Triple) → IsMachineOf x m → IsRoomOf (tree_layout x) t.room
  pub flags : AreFlags t.room
  pub line : (l : TreeLine) → slice_get c.trees place ≡ Some l → IsLine 1 t.room l.text l.bears l.patterns l.outs l.looks

-- a room stands for a row of the triple's shape
pub record HedgeStands (x : Triple) (sets : Held) (h : HRow) : Type 0 where
  pub parted : IsRoomOf (hedge_layout x) h.room
  pub numbers : IsRoom (hedge_layout x) sets.matrices h.room.numbers.items
  pub row : IsHedgeRow x (hedge_row x sets.matrices h.room.numbers.items)

pub record TreeStands (x : Triple) (sets : Held) (t : TRow) : Type 0 where
  pub parted : IsRoomOf (tree_layout x) t.room
  pub numbers : IsRoom (tree_layout x) sets.matrices t.room.numbers.items
  pub row : IsTreeRow x (tree_row x sets.matrices t.room.numbers.items)

-- the numbers of rooms
abbrev pub hedge_numbers : List HRow → List (List ℕ)
hedge_numbers rooms = map (λ h. h.room.numbers.items) rooms

abbrev pub tree_numbers : List TRow → List (List ℕ)
tree_numbers rooms = map (λ t. t.room.numbers.items) rooms

-- the rooms of all lines, and their numbers
pub record AreReadHedges (m : Machine) (c : CertData) (rooms : List HRow) (lists : List (List ℕ)) : Type 0 where
  pub count : length rooms ≡ length c.hedges
  pub each : (k : ℕ) (h : HRow) → slice_get rooms k ≡ Some h → IsReadHedge m c k h
  pub held : (ns : List ℕ) → Contains lists ns ↔ Contains (hedge_numbers rooms) ns

pub record AreReadTrees (m : Machine) (c : CertData) (rooms : List TRow) (lists : List (List ℕ)) : Type 0 where
  pub count : length rooms ≡ length c.trees
  pub each : (k : ℕ) (t : TRow) → slice_get rooms k ≡ Some t → IsReadTree m c k t
  pub held : (ns : List ℕ) → Contains lists ns ↔ Contains (tree_numbers rooms) ns
