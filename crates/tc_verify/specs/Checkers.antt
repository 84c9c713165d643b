-- What holds of the rows of a certificate while they are checked.
use Rattle.std.specs.Prelude.{◌≡◌, ◌≤◌, ◌↔◌, ℕ, List, [], length, true, All}
use Rattle.std.specs.List.{Contains}
use Rattle.tc_base.specs.declared.limits.TheConstants.{GREATEST_LIMIT}
use Rattle.tc_mat.specs.Held.{AreDifferent}
use Rattle.tc_model.specs.CertificateData.{IsFormed}
use Rattle.tc_model.specs.CertificateFits.{AllFit}
use Rattle.tc_rows.specs.CertificateRows.{hedges_of, trees_of}
use Rattle.tc_rows.specs.Triples.{Triple}
use Rattle.tc_beh.specs.Machines.{IsMachine, IsMachineOf}
use Rattle.tc_beh.specs.Outs.{sets_of}
use Rattle.tc_beh.specs.Rooms.{hedge_layout, tree_layout}
use Rattle.tc_beh.specs.RoomsOf.{IsRoomOf}
use Rattle.tc_beh.specs.RowsOf.{AreRowsOf}
use Rattle.tc_beh.specs.declared.machine.Machine.{Machine}
use Rattle.tc_beh.specs.declared.rows.Rows.{Rows}
use Rattle.tc_beh.specs.declared.rooms.HRow.{HRow}
use Rattle.tc_beh.specs.declared.rooms.TRow.{TRow}
use Rattle.tc_model.specs.declared.lists.CertData.{CertData}
use Rattle.tc_verify.specs.Fits.{sizes}
use Rattle.tc_verify.specs.Listings.{Listing, hedge_rows, tree_rows}
use Rattle.tc_verify.specs.declared.checker.Checker.{Checker}
use Rattle.tc_verify.specs.Rooms.{AreReadHedges, AreReadTrees, HedgeStands, TreeStands, hedge_numbers, tree_numbers}

abbrev pub listing_of : Rows → List HRow → List TRow → Listing
listing_of r hedges trees = record { machine = r.machine.now; sets = r.outputs; hedges = hedge_numbers hedges; trees = tree_numbers trees }

-- over the machine and sets that stay, all rooms are those of rows, and the lists hold the numbers of the rooms
pub record IsChecker (r : Rows) (hedges : List HRow) (trees : List TRow) (hedge_lists tree_lists : List (List ℕ)) (new_hedge : HRow) (new_tree : TRow) : Type 0 where
  pub some : IsMachine r.machine.now
  pub stand : (x : Triple) → IsMachineOf x r.machine.now → AreRowsOf x r
  pub fixed : r.is_fixed ≡ true
  pub different : AreDifferent r.outputs
  pub few_hedges : length hedges ≤ GREATEST_LIMIT
  pub few_trees : length trees ≤ GREATEST_LIMIT
  pub hedges_stand : (x : Triple) → IsMachineOf x r.machine.now → All (HedgeStands x r.outputs) hedges
  pub trees_stand : (x : Triple) → IsMachineOf x r.machine.now → All (TreeStands x r.outputs) trees
  pub held_hedges : (ns : List ℕ) → Contains hedge_lists ns ↔ Contains (hedge_numbers hedges) ns
  pub held_trees : (ns : List ℕ) → Contains tree_lists ns ↔ Contains (tree_numbers trees) ns
  pub room : (x : Triple) → IsMachineOf x r.machine.now → IsRoomOf (hedge_layout x) new_hedge.room
  pub tree_room : (x : Triple) → IsMachineOf x r.machine.now → IsRoomOf (tree_layout x) new_tree.room

-- of what is checked
abbrev pub AreChecked : Checker → Type 0
AreChecked c = IsChecker c.rows c.hedges.items c.trees.items c.hedge_lists c.tree_lists c.new_hedge c.new_tree

abbrev pub view_of : Checker → Listing
view_of c = listing_of c.rows c.hedges.items c.trees.items

-- rows over the sets of a certificate, and rooms for what is made of them
pub record AreBegun (m : Machine) (c : CertData) (r : Rows) (new_hedge : HRow) (new_tree : TRow) : Type 0 where
  pub machine : r.machine.now ≡ m
  pub stand : (x : Triple) → IsMachineOf x m → AreRowsOf x r
  pub sets : sets_of r.outputs.matrices ≡ c.outputs
  pub fixed : r.is_fixed ≡ true
  pub room : (x : Triple) → IsMachineOf x m → IsRoomOf (hedge_layout x) new_hedge.room
  pub tree_room : (x : Triple) → IsMachineOf x m → IsRoomOf (tree_layout x) new_tree.room

-- the data is that of a certificate's text, and its numbers fit a machine
pub record IsFit (m : Machine) (cert : CertData) : Type 0 where
  pub machine : IsMachine m
  pub formed : IsFormed cert
  pub fit : (x : Triple) → IsMachineOf x m → AllFit (sizes x) cert

-- no line is read yet
pub record IsBlank (m : Machine) (cert : CertData) (c : Checker) : Type 0 where
  pub begun : AreBegun m cert c.rows c.new_hedge c.new_tree
  pub hedges : c.hedges.items ≡ []
  pub trees : c.trees.items ≡ []
  pub hedge_lists : c.hedge_lists ≡ []
  pub tree_lists : c.tree_lists ≡ []

-- all lines are read
abbrev pub AreRead : Machine → CertData → Checker → Type 0
AreRead m cert c = AreReadHedges m cert c.hedges.items c.hedge_lists × AreReadTrees m cert c.trees.items c.tree_lists

-- what is checked are the rows of a certificate
pub record IsCheckerOf (m : Machine) (cert : CertData) (c : Checker) : Type 0 where
  pub checked : AreChecked c
  pub machine : (view_of c).machine ≡ m
  pub hedges : (x : Triple) → IsMachineOf x m → hedge_rows (view_of c) x ≡ hedges_of cert
  pub trees : (x : Triple) → IsMachineOf x m → tree_rows (view_of c) x ≡ trees_of cert

-- the same rows are checked on
pub record StaysChecked (old new : Checker) : Type 0 where
  pub checked : AreChecked new
  pub same : view_of new ≡ view_of old
