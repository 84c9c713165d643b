use Rattle.std.proofs.Common.{◌≡◌, ◌++◌, map, length, string_bytes}
use Rattle.std.specs.Vec.Iter.{into_iter_items, into_iter_len}
use Rattle.tc_top.proofs.program.words_behind_name.Given as goal

abbrev pub invariant-loop-word : goal.invariant-loop-word
invariant-loop-word l = (l.yielded ++ into_iter_items l.word-iterator ≡ into_iter_items l.initial.word-iterator)
    × (l.words ≡ map string_bytes l.yielded)
    × (into_iter_len l.word-iterator ≡ length (into_iter_items l.word-iterator))
