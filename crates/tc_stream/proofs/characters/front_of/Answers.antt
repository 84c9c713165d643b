use Rattle.std.proofs.Common.{◌<◌, ◌≤◌, length, slice_index, arith}
use Rattle.tc_stream.specs.Cuts.{char_length}
use Rattle.tc_stream.proofs.CutLaws.{bad_front_is, whole_front_is}
use Rattle.tc_stream.proofs.characters.front_of.Goals as goal

pub returns-then-is_empty : goal.returns-then-is_empty
returns-then-is_empty c =
    let none : length c.characters-text.result.now ≤ 0 = grind (arith, c.is_empty.ensures, c.if-is_empty.true) in
    let first : char_length (slice_index c.args.bytes.now 0) ≤ length c.args.bytes.now = grind (arith, c.length_from.ensures.count, c.if-bytes-length_from.false) in
    bad_front_is c.args.bytes.now c.characters-text.result.now c.requires.some (omega (arith, first, c.requires.few)) c.characters-text.ensures none

pub returns-else-is_empty : goal.returns-else-is_empty
returns-else-is_empty c =
    let some : 0 < length c.characters-text.result.now = grind (arith, c.is_empty.ensures, c.if-is_empty.false) in
    let first : char_length (slice_index c.args.bytes.now 0) ≤ length c.args.bytes.now = grind (arith, c.length_from.ensures.count, c.if-bytes-length_from.false) in
    whole_front_is c.args.bytes.now c.characters-text.result.now c.requires.some (omega (arith, first, c.requires.few)) c.characters-text.ensures some
