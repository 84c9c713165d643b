-- The rules of a certificate, one by one: over lists of rows, what is live and comes from listed rows is listed.
use Rattle.std.specs.Prelude.{◌≡◌, ℕ, List, slice_get, Some, IsTrue}
use Rattle.std.specs.List.{Contains}
use Rattle.tc_rows.specs.Triples.{Triple}
use Rattle.tc_rows.specs.Rows.{HedgeRow, TreeRow}
use Rattle.tc_rows.specs.Arithmetic.{IsEmptyRow, IsTextRow, IsTextLive, IsAppend, IsLiveAppend, IsWrap, IsLiveWrap, is_admitted, IsPassing}

-- the row of no tree, that of a text, and those that come from rows
module _ (x : Triple) where
  abbrev pub IsEmptyListed : List HedgeRow → Type 0
  IsEmptyListed hedges = (u : HedgeRow) → IsEmptyRow x u → Contains hedges u

  abbrev pub IsTextListed : List TreeRow → Type 0
  IsTextListed trees = IsTextLive x → (u : TreeRow) → IsTextRow x u → Contains trees u

  abbrev pub IsAppendListed : List HedgeRow → HedgeRow → TreeRow → Type 0
  IsAppendListed hedges h t = IsLiveAppend x h t → (u : HedgeRow) → IsAppend x h t u → Contains hedges u

  abbrev pub IsWrapListed : List TreeRow → ℕ → HedgeRow → Type 0
  IsWrapListed trees a h = IsLiveWrap x a h → (u : TreeRow) → IsWrap x a h u → Contains trees u

  -- a row that is admitted passes
  abbrev pub IsGood : TreeRow → Type 0
  IsGood t = IsTrue (is_admitted x t) → IsPassing x t

-- the same of the rows at places of the lists
module _ (x : Triple) (trees : List TreeRow) (hedges : List HedgeRow) where
  abbrev pub AppendIsListed : ℕ → ℕ → Type 0
  AppendIsListed i j = (h : HedgeRow) (t : TreeRow) → slice_get hedges i ≡ Some h → slice_get trees j ≡ Some t → IsAppendListed x hedges h t

  abbrev pub WrapIsListed : ℕ → ℕ → Type 0
  WrapIsListed i a = (h : HedgeRow) → slice_get hedges i ≡ Some h → IsWrapListed x trees a h

  abbrev pub RootIsGood : ℕ → Type 0
  RootIsGood j = (t : TreeRow) → slice_get trees j ≡ Some t → IsGood x t
