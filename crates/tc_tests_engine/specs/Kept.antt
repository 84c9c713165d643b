-- Rows that are kept beside the value that they are over.
use Rattle.std.specs.Prelude.{List, All}
use Rattle.tc_rows.specs.Triples.{Triple}
use Rattle.tc_beh.specs.RowsOf.{AreRows, AreRowsOf, StandsForHedge, StandsForTree}
use Rattle.tc_beh.specs.declared.rows.Rows.{Rows}
use Rattle.tc_beh.specs.declared.rooms.HRow.{HRow}
use Rattle.tc_beh.specs.declared.rooms.TRow.{TRow}

abbrev pub IsHedge : Rows → HRow → Type 0
IsHedge r h = (x : Triple) → AreRowsOf x r → StandsForHedge x r h

abbrev pub IsTree : Rows → TRow → Type 0
IsTree r t = (x : Triple) → AreRowsOf x r → StandsForTree x r t

-- each stands for a row
pub record AreKept (r : Rows) (hedges : List HRow) (trees : List TRow) : Type 0 where
  pub rows : AreRows r
  pub hedges_stand : All (IsHedge r) hedges
  pub trees_stand : All (IsTree r) trees
