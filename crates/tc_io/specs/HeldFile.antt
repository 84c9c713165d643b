-- The files of a store in memory, as they lie there.
use Rattle.std.specs.Prelude.{◌≡◌, ℕ, List, map, take, Some, None, true, slice_get, string_bytes}
use Rattle.std.specs.Str.{bytes_eq}
use Rattle.tc_io.specs.declared.memory.HeldFile.{HeldFile}
use Rattle.tc_io.specs.MemStore.{File, file_of}

-- the name of the file and its bytes
abbrev pub entry : HeldFile → File
entry file = (string_bytes file.name, file.bytes.items)

abbrev pub entries : List HeldFile → List File
entries files = map entry files

-- the first file of this name stands at the place
pub record IsPlace (files : List HeldFile) (name : List ℕ) (place : ℕ) : Type 0 where
  pub file : HeldFile
  pub at_place : slice_get files place ≡ Some file
  pub named : bytes_eq name (string_bytes file.name) ≡ true
  pub none_before : file_of (entries (take place files)) name ≡ None
