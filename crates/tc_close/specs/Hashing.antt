-- What a hasher of lists of numbers computes.
use Rattle.std.specs.Prelude.{ℕ, ◌*◌, ◌^◌, ◌%◌, bit_xor}

-- the state after a number
abbrev pub stepped : ℕ → ℕ → ℕ
stepped s n = (bit_xor s n * 0x9e37_79b9_7f4a_7c15) % 2 ^ 64
