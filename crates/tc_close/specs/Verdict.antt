-- What is told of listed rows: whether the stylesheet is safe.
use Rattle.std.specs.Prelude.{◌↔◌, ℕ, List, IsTrue, Contains}
use Rattle.tc_model.specs.Safety.{IsSafe}
use Rattle.tc_rows.specs.Triples.{Triple, IsTriple, sheet}
use Rattle.tc_rows.specs.Rows.{HedgeRow, TreeRow}
use Rattle.tc_rows.specs.Arithmetic.{is_admitted, IsPassing}
use Rattle.tc_rows.specs.Derivations.{TreeFrom}
use Rattle.tc_rows.specs.Certificates.{AreClosed}

-- closed lists of rows that come from rows tell whether it is safe
abbrev pub ListsTell : Type 0
ListsTell =
    (x : Triple) → IsTriple x → (trees : List TreeRow) (hedges : List HedgeRow) → AreClosed x trees hedges → ((r : TreeRow) → Contains trees r → (n : ℕ) × TreeFrom x r n)
    → IsSafe x.input x.output (sheet x) ↔ ((r : TreeRow) → Contains trees r → IsTrue (is_admitted x r) → IsPassing x r)
