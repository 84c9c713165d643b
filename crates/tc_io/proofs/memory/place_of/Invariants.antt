use Rattle.std.proofs.Common.{◌≡◌, None, take}
use Rattle.tc_io.specs.MemStore.{file_of}
use Rattle.tc_io.specs.HeldFile.{entries}
use Rattle.tc_io.proofs.memory.place_of.Given as goal

abbrev pub invariant-loop-place : goal.invariant-loop-place
invariant-loop-place l = file_of (entries (take l.place l.files)) l.name ≡ None
