-- What is counted of rows.
use Rattle.tc_decide.specs.declared.failure.RowCount as made
use Rattle.tc_decide.specs.declared.failure.RowCount.TheVariants as variant

-- the numbers of which one passes its limit: of rows of live trees, of rows of live lists of trees, of sets of pairs in them
pub data RowCount : Type 0 where
  trees : RowCount
  hedges : RowCount
  outputs : RowCount

abbrev pub row_count : made.RowCount → RowCount
row_count variant.Trees = trees
row_count variant.Hedges = hedges
row_count variant.Outputs = outputs
