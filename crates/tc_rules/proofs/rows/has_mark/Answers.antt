use Rattle.std.proofs.Common.{◌<◌, ◌^◌, ◌==◌, ◌∙◌, sym, ap, arith}
use Rattle.std.proofs.lemmas.Bool.{le-ltb}
use Rattle.std.proofs.lemmas.Nat.Bits.{bit_at_above}
use Rattle.tc_rules.proofs.rows.has_mark.Goals as goal

pub returns-else-number-lt32 : goal.returns-else-number-lt32
returns-else-number-lt32 c =
    let small : c.args.marks < 2 ^ 32 = omega arith in
    le-ltb c.args.number 32 c.if-number-lt32.false ∙ sym (ap (λ k. k == 1) (bit_at_above c.args.marks 32 c.args.number small c.if-number-lt32.false))
