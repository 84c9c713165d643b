-- What the reads of a call were: all of them, in order, each true of the store.
use Rattle.std.specs.Prelude.{◌≡◌, ◌≤◌, ◌⊎◌, ℕ, List, [], ◌∷◌, length, Option, Some, None, Err, IfOk}
use Rattle.tc_io.specs.Faults.{Rose}
use Rattle.tc_io.specs.Store.{Files, Came, Read, AreReads, Answers, longest_file}
use Rattle.tc_io.specs.declared.StoreFault.TheVariants.{Missing, Failed, TooLong}

-- `told` is what the store holds, where it tells; `rose` says that its count of faults rose. What came says what is so of the file,
-- where that is told; and the count rose where the cause doesn't show.
pub record IsTrue (told : Option Files) (rose : Type 0) (read : Read) : Type 0 where
  pub answers : (files : Files) → told ≡ Some files → Answers (files read.0) read.1
  pub short : IfOk read.1 (λ bytes. length bytes ≤ longest_file)
  pub failed : read.1 ≡ Err Failed → rose
  pub untold : told ≡ None → (read.1 ≡ Err Missing) ⊎ (read.1 ≡ Err TooLong) → rose

abbrev pub AreTrue : Option Files → Type 0 → List Read → Type 0
AreTrue told rose [] = Unit {0}
AreTrue told rose (read ∷ reads) = IsTrue told rose read × AreTrue told rose reads

-- These are all the reads between two states of a store, and they are true of it; what is held stays as it is, and the count of faults never falls.
pub record Happened {S : Type 0} (gives : S → List ℕ → Came → S → Type 0) (holds : S → Option Files) (faults : S → ℕ) (old new : S) (reads : List Read) : Type 0 where
  pub made : AreReads gives old reads new
  pub true : AreTrue (holds old) (Rose (faults old) (faults new)) reads
  pub held : holds new ≡ holds old
  pub count : faults old ≤ faults new
