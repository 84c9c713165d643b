-- What the answer to any question tells of limits.
use Rattle.std.specs.Prelude.{Result, Ok, Err}
use Rattle.tc_decide.specs.declared.failure.Failure.{Failure}
use Rattle.tc_decide.specs.declared.failure.Failure.TheVariants.{Passes}

-- a limit is told
abbrev pub IsToldLimit : {V : Type 0} → Result V Failure → Type 0
IsToldLimit (Err (Passes kind number)) = Unit {0}
IsToldLimit _ = ⊥
