use Rattle.std.proofs.Common.{◌<◌, arith}
use Rattle.tc_cert.proofs.ReadLines.{count_behind, count_number, count_same}
use Rattle.tc_cert.proofs.reader.count_line.Goals as goal

pub returns-in_default-after_byte : goal.returns-in_default-after_byte
returns-in_default-after_byte c = λ n rest h e. c.in_default-after_byte.ensures _ (count_behind c.args.kind.now c.args.bytes.now c.in-Some.behind.now n rest c.in-Some.ensures e)

pub returns-in_default-number : goal.returns-in_default-number
returns-in_default-number c = λ n rest h e.
    let small : n < 4294967296 = omega (arith, h, c.ranges.most.fits) in
    c.in_default-number.ensures n _ (count_number c.args.kind.now c.args.bytes.now c.in-Some.behind.now c.in-Some-after_byte.digits.now n rest small c.in-Some.ensures c.in-Some-after_byte.ensures e)

pub returns-then-most-count : goal.returns-then-most-count
returns-then-most-count c = λ n rest h e.
    let small : n < 4294967296 = omega (arith, h, c.ranges.most.fits) in
    let same = count_same c.args.kind.now c.args.bytes.now c.in-Some.behind.now c.in-Some-after_byte.digits.now c.in-Some-number.end.now c.in-Some-number.count n rest small c.in-Some.ensures c.in-Some-after_byte.ensures c.in-Some-number.ensures e in
    absurd (omega (arith, h, same.0, c.if-most-count.true))

pub returns-in-None : goal.returns-in-None
returns-in-None c = λ n rest h e.
    let small : n < 4294967296 = omega (arith, h, c.ranges.most.fits) in
    let same = count_same c.args.kind.now c.args.bytes.now c.in-Some.behind.now c.in-Some-after_byte.digits.now c.in-Some-number.end.now c.in-Some-number.count n rest small c.in-Some.ensures c.in-Some-after_byte.ensures c.in-Some-number.ensures e in
    c.in-None.ensures rest same.1
