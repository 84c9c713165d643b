-- What a store holds, and what its answers say of a file.
use Rattle.std.specs.Prelude.{◌≡◌, ◌<◌, ◌≤◌, ℕ, List, [], ◌∷◌, Vec, length, Option, Some, None, Result, Ok, Err}
use Rattle.tc_base.specs.declared.limits.TheConstants.{LONGEST_FILE}
use Rattle.tc_io.specs.declared.StoreFault.{StoreFault}
use Rattle.tc_io.specs.declared.StoreFault.TheVariants.{Missing, Failed, TooLong, NoMemory}

-- what a read came to: the bytes, or why there are none
abbrev pub Came : Type 0
Came = Result (List ℕ) StoreFault

abbrev pub came : {Z : Type 0} → Result (Vec ℕ Z) StoreFault → Came
came (Ok bytes) = Ok bytes.items
came (Err fault) = Err fault

-- a read: the name that was asked for, and what came of it
abbrev pub Read : Type 0
Read = List ℕ × Came

-- These are all the reads between two states of a store, in order. `gives` says which states, names and outcomes a read joins.
abbrev pub AreReads : {S : Type 0} → (S → List ℕ → Came → S → Type 0) → S → List Read → S → Type 0
AreReads gives old [] new = new ≡ old
AreReads {S} gives old (read ∷ reads) new = (after : S) × gives old read.0 read.1 after × AreReads gives after reads new

-- the bytes held under each name, where some are
abbrev pub Files : Type 0
Files = List ℕ → Option (List ℕ)

-- the most bytes that a read gives
abbrev pub longest_file : ℕ
longest_file = LONGEST_FILE

-- a file is held, and longer than a read gives
abbrev pub IsTooLong : Option (List ℕ) → Type 0
IsTooLong file = (bytes : List ℕ) × (file ≡ Some bytes) × (longest_file < length bytes)

-- a file is held, and short enough to be read
abbrev pub IsReadable : Option (List ℕ) → Type 0
IsReadable file = (bytes : List ℕ) × (file ≡ Some bytes) × (length bytes ≤ longest_file)

-- what an answer says of the file under the name
abbrev pub Answers : Option (List ℕ) → Came → Type 0
Answers file (Ok bytes) = file ≡ Some bytes
Answers file (Err Missing) = file ≡ None
Answers file (Err TooLong) = IsTooLong file
Answers file (Err Failed) = IsReadable file
Answers file (Err NoMemory) = IsReadable file
