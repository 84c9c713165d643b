use Rattle.std.proofs.Common.{take, drop, ◌+◌, ◌-◌, length, ◌∙◌, sym, refl}
use Rattle.std.specs.Cmp.Lexicographic.{bytes_decides}
use Rattle.std.proofs.lemmas.List.{take_rest}
use Rattle.tc_close.proofs.appends.agree_but_entries.Goals as goal

pub returns : goal.returns
returns c = λ e.
    let n = 2 + c.args.flags + c.args.entries in
    let first = c.args.first.now in
    let second = c.args.second.now in
    let same = (bytes_decides (take (length first - n) (drop n first)) (take (length second - n) (drop n second))).0 (sym c.eq.ensures ∙ e) in
    record { alike = c.if-not-are_alike.ensures refl; bears = c.if-not-bear_alike.ensures refl; looks = sym (take_rest first n) ∙ (same ∙ take_rest second n) }
