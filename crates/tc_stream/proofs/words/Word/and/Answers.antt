use Rattle.std.proofs.Common.{◌≡◌, ◌≤◌, length, sym, arith}
use Rattle.tc_stream.proofs.WordLaws.{full_more, strange_more}
use Rattle.tc_stream.proofs.words.Word.and.Goals as goal

pub returns-then-self-ge8 : goal.returns-then-self-ge8
returns-then-self-ge8 c word e =
    let eight : length c.args.self.bytes ≡ 8 = omega arith in
    sym (full_more c.args.self.count c.args.self.bytes word c.args.next c.if-self-ge8.true eight e)

pub returns-then-not-is_ascii : goal.returns-then-not-is_ascii
returns-then-not-is_ascii c word e =
    let high : 128 ≤ c.args.next = grind (arith, c.is_ascii.ensures, c.if-not-is_ascii.true) in
    sym (strange_more word c.args.next high)
