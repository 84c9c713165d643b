-- A store in memory: what clients see of it, and how it answers.
use Rattle.std.specs.Prelude.{◌≡◌, ◌≢◌, ℕ, List, [], ◌∷◌, Contains, Some, None, Ok, Err, if◌then◌else◌}
use Rattle.std.specs.Str.{bytes_eq}
use Rattle.tc_io.specs.Faults.{raised}
use Rattle.tc_io.specs.Store.{Files, Came, IsTooLong, IsReadable}
use Rattle.tc_io.specs.declared.StoreFault.TheVariants.{Missing, Failed, TooLong, NoMemory}

-- a name, and the bytes held under it
abbrev pub File : Type 0
File = List ℕ × List ℕ

-- what clients see of a store in memory
pub record StoreState : Type 0 where
  pub files : List File
  -- how many reads there were, up to the last value of a count
  pub calls : ℕ
  -- the numbers of the reads that are to fail, the first read being number 1
  pub failing : List ℕ
  pub faults : ℕ

-- the bytes under the name
abbrev pub file_of : List File → Files
file_of [] name = None
file_of (file ∷ files) name = if bytes_eq name file.0 then Some file.1 else file_of files name

-- the next read is one that was given to fail
abbrev pub NextFails : StoreState → Type 0
NextFails store = Contains store.failing (raised store.calls)

-- these bytes are held under the name, and all else is as before
pub record Puts (old new : StoreState) (name bytes : List ℕ) : Type 0 where
  pub put : file_of new.files name ≡ Some bytes
  pub others : (other : List ℕ) → other ≢ name → file_of new.files other ≡ file_of old.files other
  pub calls : new.calls ≡ old.calls
  pub failing : new.failing ≡ old.failing
  pub faults : new.faults ≡ old.faults

-- why a read is answered so
abbrev pub Serves : StoreState → List ℕ → Came → Type 0
Serves store name (Ok bytes) = (file_of store.files name ≡ Some bytes) × ¬ NextFails store
Serves store name (Err Missing) = file_of store.files name ≡ None
Serves store name (Err TooLong) = IsTooLong (file_of store.files name)
Serves store name (Err Failed) = IsReadable (file_of store.files name) × NextFails store
Serves store name (Err NoMemory) = IsReadable (file_of store.files name) × ¬ NextFails store

-- the store after a read with this answer
abbrev pub after_read : StoreState → Came → StoreState
after_read store (Err Failed) = record store { calls = raised store.calls; faults = raised store.faults }
after_read store _ = record store { calls = raised store.calls }

-- what a read of a store in memory does
pub record Reads (old : StoreState) (name : List ℕ) (came : Came) (new : StoreState) : Type 0 where
  pub served : Serves old name came
  pub after : new ≡ after_read old came
