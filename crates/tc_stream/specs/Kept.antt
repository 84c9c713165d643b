-- Words of which the first characters are kept.
use Rattle.std.specs.Prelude.{ℕ, ◌&&◌, List, Option, None, Some, length, take, nat_lt, if◌then◌else◌}
use Rattle.std.specs.List.{list_all}

-- a word that is kept: one that has at most eight characters, each of ASCII
abbrev pub kept : List ℕ → Option (List ℕ)
kept word = if nat_lt (length word) 9 && list_all (λ b. nat_lt b 128) word then Some word else None

-- the word that so many of these bytes are, or none, where there are too many
abbrev pub known : ℕ → List ℕ → Option (List ℕ)
known count bytes = if nat_lt count 9 then Some (take count bytes) else None
