-- A number, and the bytes that it is written as.
use Rattle.std.proofs.Common.{◌≡◌, ◌<◌, ◌^◌, ℕ}
use Rattle.std.specs.Hash.{le_bytes}
use Rattle.std.specs.Int.{w32, from_le_bytes}
use Rattle.std.proofs.lemmas.Nat.{from_le_bytes-to_le_bytes_4}

pub number_of_bytes : (n : ℕ) → n < 2 ^ 32 → from_le_bytes w32 (le_bytes 4 n) ≡ n
unfolding le_bytes
number_of_bytes n fits = from_le_bytes-to_le_bytes_4 n fits
