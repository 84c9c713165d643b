-- What is told of listed rows.
use Rattle.std.proofs.Common.{ℕ, ◌↔◌, List, IsTrue, Contains}
use Rattle.tc_model.specs.Safety.{IsSafe}
use Rattle.tc_rows.specs.Triples.{Triple, IsTriple, sheet}
use Rattle.tc_rows.specs.Rows.{HedgeRow, TreeRow}
use Rattle.tc_rows.specs.Arithmetic.{is_admitted, IsPassing}
use Rattle.tc_rows.specs.Derivations.{TreeFrom}
use Rattle.tc_rows.specs.Certificates.{AreClosed}
use Rattle.tc_rows.proofs.AllLaws.{rows_are_lawful}
use Rattle.tc_rows.proofs.Derived.{are_exact, all_listed}
use Rattle.tc_close.specs.Verdict.{ListsTell}

module _ (x : Triple) (is : IsTriple x) where
  safety : (trees : List TreeRow) (hedges : List HedgeRow) → AreClosed x trees hedges → ((r : TreeRow) → Contains trees r → (n : ℕ) × TreeFrom x r n)
      → IsSafe x.input x.output (sheet x) ↔ ((r : TreeRow) → Contains trees r → IsTrue (is_admitted x r) → IsPassing x r)
  safety trees hedges closed comes = (to, of)
    where
      to : IsSafe x.input x.output (sheet x) → (r : TreeRow) → Contains trees r → IsTrue (is_admitted x r) → IsPassing x r
      to safe r there admitted = let (n, d) = comes r there in (are_exact x (rows_are_lawful x is)).safe.0 safe r n d admitted

      of : ((r : TreeRow) → Contains trees r → IsTrue (is_admitted x r) → IsPassing x r) → IsSafe x.input x.output (sheet x)
      of pass =
          let exact = are_exact x (rows_are_lawful x is) in
          exact.safe.1 (λ r n d admitted. let (t, l, row, count) = (exact.trees r n).0 d in pass r ((all_listed x (rows_are_lawful x is) trees hedges closed).0 t r l row) admitted)

pub lists_tell : ListsTell
lists_tell x is = safety x is
