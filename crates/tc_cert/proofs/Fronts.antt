-- The first line that isn't as it must be is one alone.
use Rattle.std.proofs.Common.{◌≡◌, ◌≤◌, ◌+◌, ℕ, arith}
use Rattle.tc_cert.specs.Fronts.{line_count, OneFirstFault, TextHasNoFault}

pub one_fault : OneFirstFault
one_fault bytes one other a b =
    let up : line_count b.before ≤ line_count a.before = a.no_more b.before b.rest b.begins in
    let down : line_count a.before ≤ line_count b.before = b.no_more a.before a.rest a.begins in
    same one other (line_count a.before) (line_count b.before) a.next b.next up down
  where
    same : (m n i j : ℕ) → m ≡ i + 1 → n ≡ j + 1 → j ≤ i → i ≤ j → m ≡ n
    same m n i j p q up down = omega arith

pub no_fault : TextHasNoFault
no_fault bytes d line t f = f.no_text d t
