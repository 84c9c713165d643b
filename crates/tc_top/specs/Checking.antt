-- How many rows a check may have.
use Rattle.std.specs.Prelude.{ℕ, Option, Some, None}
use Rattle.tc_decide.specs.declared.limits.TheConstants.{MOST_ROWS}

-- how many rows of live trees, and of live lists of trees, there may be
abbrev pub most_rows : Option ℕ → ℕ
most_rows None = MOST_ROWS
most_rows (Some limit) = limit
