-- Faults of a sink.
use Rattle.std.specs.Prelude.{◌≤◌, ℕ, Result, OnErr}
use Rattle.tc_io.specs.Faults.{Rose}

-- the count of faults never falls, and an error comes only where it rose
pub record CountsFaults {T E : Type 0} (old new : ℕ) (x : Result T E) : Type 0 where
  pub count : old ≤ new
  pub rose : OnErr x (Rose old new)
