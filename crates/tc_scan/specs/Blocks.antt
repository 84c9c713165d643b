-- Bytes that stand for themselves in character data.
use Rattle.std.specs.Prelude.{ℕ, Bool, ◌||◌, not, ◌==◌}

-- neither `<` nor `&`, nor `]`, with which `]]>` would begin, nor CR, which is a line end that changes
abbrev pub is_clear : ℕ → Bool
is_clear b = not (b == 0x3C || b == 0x26 || b == 0x5D || b == 0xD)
