-- Rows before they are found, and when all are.
use Rattle.std.specs.Prelude.{◌≡◌, ◌≤◌, ℕ, [], length}
use Rattle.tc_base.specs.declared.limits.TheConstants.{GREATEST_LIMIT}
use Rattle.tc_rows.specs.Triples.{Triple}
use Rattle.tc_beh.specs.Machines.{IsMachineOf}
use Rattle.tc_beh.specs.declared.machine.Machine.{Machine}
use Rattle.tc_settle.specs.Closed.{IsClosure}
use Rattle.tc_settle.specs.Derived.{AllDerive, IsClosed}
use Rattle.tc_settle.specs.declared.closed.Closed.{Closed}
use Rattle.tc_close.specs.RowState.{RowState, held_of}

-- none is held yet, and at most 4,000 of each kind may be
abbrev pub IsStart : RowState → ℕ → Type 0
IsStart s most = (s.hedges ≡ []) × (s.trees ≡ []) × (most ≤ GREATEST_LIMIT)

-- the rows are those of some triples that the machine stands for
pub record AreOver (IsOf : Triple → Type 0) (m : Machine) : Type 0 where
  pub some : (x : Triple) × IsOf x
  pub machine : (x : Triple) → IsOf x → IsMachineOf x m

-- all rows are found, and of each kind no more than so many
pub record IsSettled (IsOf : Triple → Type 0) (s : RowState) (c : Closed) (most : ℕ) : Type 0 where
  pub closure : IsClosure (held_of IsOf s) c
  pub trees : length s.trees ≤ most
  pub hedges : length s.hedges ≤ most
  pub limit : most ≤ GREATEST_LIMIT

-- whatever they were found by
pub record AreAll (IsOf : Triple → Type 0) (s : RowState) : Type 0 where
  pub closed : IsClosed (held_of IsOf s)
  pub derive : AllDerive (held_of IsOf s)
  pub trees : length s.trees ≤ GREATEST_LIMIT
  pub hedges : length s.hedges ≤ GREATEST_LIMIT
