-- A store over the files of the system: its count of faults.
use Rattle.std.specs.Prelude.{◌≡◌, ℕ, List, Ok, Err}
use Rattle.tc_io.specs.Faults.{raised}
use Rattle.tc_io.specs.Store.{Came}

-- every outcome but bytes raises the count of faults by one
abbrev pub Counts : ℕ → List ℕ → Came → ℕ → Type 0
Counts old name (Ok bytes) new = new ≡ old
Counts old name (Err fault) new = new ≡ raised old
