use Rattle.tc_base.proofs.Front.{nothing_begins, one_byte}
use Rattle.tc_base.proofs.reading.first_char.Goals as goal

pub returns-in_err-first : goal.returns-in_err-first
returns-in_err-first c = rw c.from_residual.ensures (nothing_begins _ c.in_err-first.ensures.item.3)

pub returns-then-first-lt128 : goal.returns-then-first-lt128
returns-then-first-lt128 c =
    let item = c.in_ok-first.ensures.item.3 in
    one_byte _ _ item.0 (item.1 _) c.if-first-lt128.true
