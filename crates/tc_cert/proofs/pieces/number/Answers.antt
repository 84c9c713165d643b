use Rattle.std.proofs.Common.{arith}
use Rattle.tc_cert.proofs.Numbers.{are_digits, no_numeral, no_value, is_number, bool_apart}
use Rattle.tc_cert.proofs.pieces.number.Goals as goal

pub returns-then-not-is_numeral : goal.returns-then-not-is_numeral
returns-then-not-is_numeral c = no_numeral c.args.bytes.now c.split_at.result.0.now c.split_at.result.1.now c.digit_len.result c.digit_len.ensures.count c.split_at.ensures.front
    (λ h. bool_apart c.is_numeral.result (c.is_numeral.ensures.1 h) c.if-not-is_numeral.true)

pub value_of-requires : goal.value_of-requires
value_of-requires c = are_digits c.args.bytes.now c.split_at.result.0.now c.split_at.result.1.now c.digit_len.result c.digit_len.ensures.count c.split_at.ensures.front

pub returns-in-Some : goal.returns-in-Some
returns-in-Some c = is_number c.args.bytes.now c.split_at.result.0.now c.split_at.result.1.now c.digit_len.result c.digit_len.ensures.count c.split_at.ensures.front c.split_at.ensures.back c.in-Some.value
    (c.is_numeral.ensures.0 c.if-not-is_numeral.false) c.in-Some.ensures (omega arith)

pub returns-in-None : goal.returns-in-None
returns-in-None c = no_value c.args.bytes.now c.split_at.result.0.now c.split_at.result.1.now c.digit_len.result c.digit_len.ensures.count c.split_at.ensures.front c.in-None.ensures
