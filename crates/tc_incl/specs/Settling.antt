-- Cover rows before they are found, and when all are.
use Rattle.std.specs.Prelude.{◌≡◌, ◌<◌, ◌≤◌, ℕ, List, [], length}
use Rattle.tc_auto.specs.declared.auto.Auto.{Auto}
use Rattle.tc_model.specs.Symbols.{Mention}
use Rattle.tc_settle.specs.Closed.{IsClosure}
use Rattle.tc_settle.specs.declared.closed.Closed.{Closed}
use Rattle.tc_incl.specs.Covers.{AreOf, State, held_of}
use Rattle.tc_incl.specs.Schemas.{Schemas}

-- none is held yet, and so many of each kind may be
abbrev pub IsStart : State → ℕ → Type 0
IsStart s most = (s.hedges ≡ []) × (s.trees ≡ []) × (most < 4294967295)

-- the rows are those of some schemas that the automata stand for
pub record AreOver (IsOf : Schemas → Type 0) (first second : Auto) (symbols : List Mention) : Type 0 where
  pub some : (x : Schemas) × IsOf x
  pub schemas : (x : Schemas) → IsOf x → AreOf first second symbols x

-- all rows are found, and of each kind no more than so many
pub record IsSettled (IsOf : Schemas → Type 0) (s : State) (c : Closed) (most : ℕ) : Type 0 where
  pub closure : IsClosure (held_of IsOf s) c
  pub trees : length s.trees ≤ most
  pub hedges : length s.hedges ≤ most
  pub limit : most < 4294967295
