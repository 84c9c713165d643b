-- The words that the arguments of a program give.
use Rattle.std.specs.Prelude.{◌≡◌, ◌≢◌, ℕ, List, [], drop, map, String, string_bytes, Result, Ok, Err}
use Rattle.std.specs.IoError.{error_kind}
use Rattle.std.specs.Vec.Iter.{into_iter_items}
use Rattle.std.specs.declared.io.Error.{Error}
use Rattle.std.specs.declared.io.ErrorKind.TheVariants.{OutOfMemory}
use Rattle.std.specs.declared.vec.IntoIter.{IntoIter}

-- those behind the program's name, and none where they can't be told
abbrev pub words_of : {Z A : Type 0} → Result (IntoIter (String Z) A) Error → List (List ℕ)
words_of (Ok arguments) = map string_bytes (drop 1 (into_iter_items arguments))
words_of (Err error) = []

-- memory may be refused where there are some, and was where they can't be told for want of it
abbrev pub LackMemory : {Z A : Type 0} → Result (IntoIter (String Z) A) Error → Type 0
LackMemory (Ok arguments) = drop 1 (into_iter_items arguments) ≢ []
LackMemory (Err error) = error_kind error ≡ OutOfMemory
