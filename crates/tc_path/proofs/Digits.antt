-- Digits are ASCII, so a text may be cut behind them.
use Rattle.std.proofs.Common.{◌≡◌, refl, ℕ, zero, suc, ◌+◌, ◌<◌, List, true, nat_le, sym, subst, length, get_or, arith, IsUtf8, IsCharBoundary}
use Rattle.std.specs.List.{prefix_len}
use Rattle.std.proofs.lemmas.Bool.{and_parts, leb-true}
use Rattle.std.proofs.lemmas.List.Sums.{prefix_len_passes, prefix_len-le-length}
use Rattle.std.proofs.lemmas.Str.{IsCharBoundary-after_ascii, IsCharBoundary-start}
use Rattle.tc_model.specs.PathTextTokens.{is_digit}

digit_ascii : (b : ℕ) → is_digit b ≡ true → b < 128
digit_ascii b e = omega (arith, leb-true b 0x39 (and_parts (nat_le 0x30 b) (nat_le b 0x39) e).1)

pub cut_after_digits : (bs : List ℕ) → IsUtf8 bs → IsCharBoundary bs (prefix_len is_digit bs)
cut_after_digits bs u = by (prefix_len is_digit bs) refl
  where
    by : (n : ℕ) → prefix_len is_digit bs ≡ n → IsCharBoundary bs (prefix_len is_digit bs)
    by zero e = subst (IsCharBoundary bs) (sym e) (IsCharBoundary-start bs u)
    by (suc n) e =
        let within : n < length bs = omega (arith, prefix_len-le-length is_digit bs) in
        let digit = digit_ascii (get_or bs n 0) (prefix_len_passes is_digit bs n 0 (omega arith)) in
        let same : n + 1 ≡ prefix_len is_digit bs = omega arith in
        subst (IsCharBoundary bs) same (IsCharBoundary-after_ascii bs n u within digit)
