-- What the result of a document is worked out from: a machine, the sets that are held, room, and the row of the document.
use Rattle.std.specs.Prelude.{◌≡◌}
use Rattle.tc_model.specs.Machine.{in_mode}
use Rattle.tc_mat.specs.Held.{Held}
use Rattle.tc_rules.specs.States.{body_of_root}
use Rattle.tc_rows.specs.Triples.{Triple, sheet, predicates, outputs}
use Rattle.tc_rows.specs.PairSets.{PairSet}
use Rattle.tc_rows.specs.Rows.{TreeRow}
use Rattle.tc_rows.specs.Bodies.{on_root, body_pairs}
use Rattle.tc_rows.specs.Arithmetic.{below}
use Rattle.tc_beh.specs.Machines.{IsMachineOf}
use Rattle.tc_beh.specs.Rooms.{tree_layout, IsRoom}
use Rattle.tc_beh.specs.RoomsOf.{IsRoomOf}
use Rattle.tc_beh.specs.RowsOf.{IsWork}
use Rattle.tc_beh.specs.declared.machine.Machine.{Machine}
use Rattle.tc_beh.specs.declared.rooms.Room.{Room}
use Rattle.tc_beh.specs.declared.rows.Work.{Work}

-- all of it is that of a triple
pub record IsRootIn (x : Triple) (m : Machine) (h : Held) (w : Work) (t : Room) : Type 0 where
  pub machine : IsMachineOf x m
  pub size : h.size ≡ outputs x
  pub work : IsWork x m h w
  pub parted : IsRoomOf (tree_layout x) t
  pub numbers : IsRoom (tree_layout x) h.matrices t.numbers.items

-- where what is put out on the root leads the output
abbrev pub root_pairs : Triple → TreeRow → PairSet
root_pairs x t = body_pairs x (body_of_root x.symbols (predicates x) (sheet x).rules x.bodies (in_mode 0)) on_root (below x t.bears t.entries t.looks 0)
