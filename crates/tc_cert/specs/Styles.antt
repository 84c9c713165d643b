-- How rows are written, as code says it.
use Rattle.std.specs.Prelude.{◌≡◌, ◌∷◌, ℕ, List, false, Some}
use Rattle.tc_cert.specs.Texts.{Version, whole, by_changes}
use Rattle.tc_cert.specs.Fields.{Fields, row_line, are_like, IsBehind, changes_letter}
use Rattle.std.specs.declared.cmp.Ordering.TheVariants.{Less}
use Rattle.tc_cert.specs.Orders.{row_order}
use Rattle.tc_cert.specs.NextRows.{IsWholeAt}
use Rattle.tc_cert.specs.declared.rows.Kind.{Kind}
use Rattle.tc_cert.specs.declared.rows.Style.{Style}
use Rattle.tc_cert.specs.declared.rows.Style.TheVariants.{Whole, ByChanges}

abbrev pub version_of : Style → Version
version_of Whole = whole
version_of ByChanges = by_changes

-- a row that is written whole behind another, with other lengths where rows are written by changes
pub record IsWholeBehind (s : Style) (k : Kind) (b : Fields) (bytes : List ℕ) (f : Fields) (rest : List ℕ) : Type 0 where
  pub at : IsWholeAt k bytes f rest
  pub unlike : s ≡ ByChanges → are_like b f ≡ false
  pub behind : IsBehind (row_line k) (Some b) f

pub record MayBeWhole (s : Style) (b f : Fields) : Type 0 where
  pub unlike : s ≡ ByChanges → are_like b f ≡ false
  pub order : row_order b f ≡ Less

-- the next row is written by its changes
pub record IsByChanges (s : Style) (k : Kind) (bytes : List ℕ) : Type 0 where
  pub style : s ≡ ByChanges
  pub rest : List ℕ
  pub spelled : bytes ≡ changes_letter k ∷ rest
