-- The texts of a demonstration are short.
use Rattle.std.proofs.Common.{◌≤◌, ◌<◌, ◌+◌, ◌*◌, ◌%◌, ◌++◌, ℕ, zero, suc, List, length, codes, decimal, arith}
use Rattle.std.proofs.lemmas.Fmt.{length-decimal-le}
use Rattle.std.proofs.lemmas.List.{length-append}
use Rattle.std.proofs.Math.Nat.{mod-lt}
use Rattle.tc_top.specs.Demo.{demo_line, demo_lines, demo_schema}

append_short : (s t : List ℕ) (m n : ℕ) → length s ≤ m → length t ≤ n → length (s ++ t) ≤ m + n
append_short s t m n p q = let e = length-append s t in omega (arith, e, p, q)

line_short : (size i : ℕ) → 1 ≤ size → size ≤ 40 → i ≤ size → length (demo_line size i) ≤ 40
line_short size i some few within =
    let one : length (decimal i) ≤ 2 = length-decimal-le 2 i (omega arith) (omega (arith, few, within)) (omega (arith, few, within)) in
    let rest : i % size < size = mod-lt i (omega (arith, some)) in
    let two : length (decimal (i % size + 1)) ≤ 2 = length-decimal-le 2 (i % size + 1) (omega arith) (omega (arith, few, rest)) (omega (arith, few, rest)) in
    let next = decimal (i % size + 1) in
    let t1 = codes "e" ++ decimal i in
    let t2 = t1 ++ codes " = element e" in
    let t3 = t2 ++ decimal i in
    let t4 = t3 ++ codes " { e" in
    let t5 = t4 ++ next in
    let h1 : length t1 ≤ 3 = append_short (codes "e") (decimal i) 1 2 (omega arith) one in
    let h2 : length t2 ≤ 15 = append_short t1 (codes " = element e") 3 12 h1 (omega arith) in
    let h3 : length t3 ≤ 17 = append_short t2 (decimal i) 15 2 h2 one in
    let h4 : length t4 ≤ 21 = append_short t3 (codes " { e") 17 4 h3 (omega arith) in
    let h5 : length t5 ≤ 23 = append_short t4 next 21 2 h4 two in
    let whole : length (demo_line size i) ≤ 27 = append_short t5 (codes "* }\n") 23 4 h5 (omega arith) in
    omega (arith, whole)

lines_short : (size i : ℕ) → 1 ≤ size → size ≤ 40 → i ≤ size → length (demo_lines size i) ≤ i * 40
lines_short size zero some few within = omega arith
lines_short size (suc i) some few within =
    let both = append_short (demo_lines size i) (demo_line size (suc i)) (i * 40) 40 (lines_short size i some few (omega (arith, within))) (line_short size (suc i) some few within) in
    omega (arith, both)

pub schema_short : (size : ℕ) → 1 ≤ size → size ≤ 40 → length (demo_schema size) ≤ 67108864
schema_short size some few =
    let lines : length (demo_lines size size) ≤ 1600 = omega (arith, few, lines_short size size some few (omega arith)) in
    let whole = append_short (codes "start = e1\n") (demo_lines size size) 11 1600 (omega arith) lines in
    omega (arith, whole)
