-- What is kept stands on where more is held, and with one more.
use Rattle.std.proofs.Common.{◌≡◌, ◌<◌, ◌∷◌, ◌++◌, [], ℕ, List, length, arith}
use Rattle.std.proofs.lemmas.List.Elements.{All-push}
use Rattle.tc_rows.specs.Triples.{Triple}
use Rattle.tc_beh.specs.Held.{Extends}
use Rattle.tc_beh.specs.Machines.{IsMachine, IsMachineOf}
use Rattle.tc_beh.specs.RowsOf.{AreRowsOf, AreSameRows, StandsForHedge, StandsForTree}
use Rattle.tc_beh.specs.declared.machine.Machine.{Machine}
use Rattle.tc_beh.specs.declared.rows.Rows.{Rows}
use Rattle.tc_beh.specs.declared.rooms.HRow.{HRow}
use Rattle.tc_beh.specs.declared.rooms.TRow.{TRow}
use Rattle.tc_beh.proofs.RoomLaws.{rooms_lawful}
use Rattle.tc_beh.proofs.SameParts.{rows_before}
use Rattle.tc_tests_engine.specs.Kept.{AreKept, IsHedge, IsTree}

no_place : {X : Type 0} (xs : List X) (k : ℕ) → xs ≡ [] → k < length xs → ⊥
no_place [] k e l = absurd (omega (arith, l))
no_place (x ∷ xs) k e l = absurd (cc)

-- nothing is kept yet
pub none_kept : (r : Rows) (hs : List HRow) (ts : List TRow) (m : Machine) → IsMachine m → ((x : Triple) → IsMachineOf x m → AreRowsOf x r) → hs ≡ [] → ts ≡ [] → AreKept r hs ts
none_kept r hs ts m (x, is) stands e f = record {
  rows = (x, stands x is);
  hedges_stand = λ k d l. absurd (no_place hs k e l);
  trees_stand = λ k d l. absurd (no_place ts k f l);
}

pub kept_on : (old new : Rows) (hs : List HRow) (ts : List TRow) → AreKept old hs ts → ((x : Triple) → AreRowsOf x old → AreRowsOf x new) → AreSameRows old new → Extends old.outputs new.outputs → AreKept new hs ts
kept_on old new hs ts kept on same held = record {
  rows = let (x, are) = kept.rows in (x, on x are);
  hedges_stand = λ k d l x now.
      let s : StandsForHedge x old _ = kept.hedges_stand k d l x (rows_before x old new kept.rows same now) in
      record { parted = s.parted; numbers = (rooms_lawful.hedges_stand x old.outputs new.outputs _ held s.numbers).0 };
  trees_stand = λ k d l x now.
      let s : StandsForTree x old _ = kept.trees_stand k d l x (rows_before x old new kept.rows same now) in
      record { parted = s.parted; numbers = (rooms_lawful.trees_stand x old.outputs new.outputs _ held s.numbers).0 };
}

pub hedge_more : (r : Rows) (hs : List HRow) (ts : List TRow) (h : HRow) → AreKept r hs ts → IsHedge r h → AreKept r (hs ++ h ∷ []) ts
hedge_more r hs ts h kept is = record { rows = kept.rows; hedges_stand = All-push (IsHedge r) hs h kept.hedges_stand is; trees_stand = kept.trees_stand }

pub tree_more : (r : Rows) (hs : List HRow) (ts : List TRow) (t : TRow) → AreKept r hs ts → IsTree r t → AreKept r hs (ts ++ t ∷ [])
tree_more r hs ts t kept is = record { rows = kept.rows; hedges_stand = kept.hedges_stand; trees_stand = All-push (IsTree r) ts t kept.trees_stand is }

-- what stands for a row of the triples of before
pub hedge_now : (old new : Rows) (hs : List HRow) (ts : List TRow) (h : HRow) → AreKept old hs ts → AreSameRows old new → ((x : Triple) → AreRowsOf x old → StandsForHedge x new h) → IsHedge new h
hedge_now old new hs ts h kept same is x now = is x (rows_before x old new kept.rows same now)

pub tree_now : (old new : Rows) (hs : List HRow) (ts : List TRow) (t : TRow) → AreKept old hs ts → AreSameRows old new → ((x : Triple) → AreRowsOf x old → StandsForTree x new t) → IsTree new t
tree_now old new hs ts t kept same is x now = is x (rows_before x old new kept.rows same now)
