-- What rows over a machine hold, and the rooms that stand for rows over them.
use Rattle.std.specs.Prelude.{◌≡◌, length, All}
use Rattle.tc_mat.specs.Matrix.{Matrix}
use Rattle.tc_mat.specs.Held.{Held}
use Rattle.tc_rows.specs.Triples.{Triple, sheet, outputs}
use Rattle.tc_rows.specs.PairSets.{HaveSamePairs}
use Rattle.tc_rows.specs.Bodies.{text_edges}
use Rattle.tc_rows.specs.Rows.{HedgeRow, TreeRow}
use Rattle.tc_rules.specs.KnownRules.{AreKnown}
use Rattle.tc_beh.specs.Putting.{has}
use Rattle.tc_beh.specs.Around.{AreAllTakers}
use Rattle.tc_beh.specs.Bundles.{AreStepsOf}
use Rattle.tc_beh.specs.Machines.{IsMachineOf}
use Rattle.tc_beh.specs.Opening.{Remembers, AreLinked}
use Rattle.tc_beh.specs.Rooms.{hedge_layout, tree_layout, IsRoom, hedge_row, tree_row}
use Rattle.tc_beh.specs.RoomsOf.{IsRoomOf}
use Rattle.tc_beh.specs.Runs.{AreRuns}
use Rattle.tc_beh.specs.declared.rows.Rows.{Rows}
use Rattle.tc_beh.specs.declared.machine.Machine.{Machine}
use Rattle.tc_beh.specs.declared.rows.Work.{Work}
use Rattle.tc_beh.specs.declared.rooms.HRow.{HRow}
use Rattle.tc_beh.specs.declared.rooms.TRow.{TRow}

-- the room is that of a triple and a machine, and what is remembered was found for it and for the sets that stand in rows
pub record IsWork (x : Triple) (m : Machine) (h : Held) (w : Work) : Type 0 where
  pub text : HaveSamePairs (has w.text) (text_edges x)
  pub text_size : w.text.size ≡ outputs x
  pub set : w.set.size ≡ outputs x
  pub named_count : length w.named.items ≡ length (sheet x).named
  pub named : All (λ (n : Matrix). n.size ≡ outputs x) w.named.items
  pub open_size : w.sets.out.size ≡ outputs x
  pub open_room : w.sets.room ≡ m.depth
  pub open_text : w.sets.met.text ≡ w.text
  pub remembers : Remembers m.output w.sets.met
  pub links : AreLinked h w.sets.met
  pub known : AreKnown x.symbols x.rules w.known
  pub bundles : AreStepsOf m.input.auto w.bundles
  pub takers : AreAllTakers m.input w.takers.items
  pub runs : AreRuns x w.runs.items

pub record AreRowsOf (x : Triple) (r : Rows) : Type 0 where
  pub machine : IsMachineOf x r.machine.now
  pub size : r.outputs.size ≡ outputs x
  pub work : IsWork x r.machine.now r.outputs r.work

abbrev pub AreRows : Rows → Type 0
AreRows r = (x : Triple) × AreRowsOf x r

-- a room of the machine, and one that stands for a row
abbrev pub IsHedgeRoom : Rows → HRow → Type 0
IsHedgeRoom r h = (x : Triple) → AreRowsOf x r → IsRoomOf (hedge_layout x) h.room

pub record StandsForHedge (x : Triple) (r : Rows) (h : HRow) : Type 0 where
  pub parted : IsRoomOf (hedge_layout x) h.room
  pub numbers : IsRoom (hedge_layout x) r.outputs.matrices h.room.numbers.items

pub record StandsForTree (x : Triple) (r : Rows) (t : TRow) : Type 0 where
  pub parted : IsRoomOf (tree_layout x) t.room
  pub numbers : IsRoom (tree_layout x) r.outputs.matrices t.room.numbers.items

-- the row that a room stands for
abbrev pub hedge_of : Triple → Rows → HRow → HedgeRow
hedge_of x r h = hedge_row x r.outputs.matrices h.room.numbers.items

abbrev pub tree_of : Triple → Rows → TRow → TreeRow
tree_of x r t = tree_row x r.outputs.matrices t.room.numbers.items

-- all but what is held and what is worked in stays
pub record AreSameRows (old new : Rows) : Type 0 where
  pub machine : new.machine ≡ old.machine
  pub is_fixed : new.is_fixed ≡ old.is_fixed
