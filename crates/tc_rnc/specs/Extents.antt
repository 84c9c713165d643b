-- How many bytes a token takes at least.
use Rattle.std.specs.Prelude.{ℕ, ◌+◌, length}
use Rattle.tc_rnc.specs.declared.tokens.Word.{Word}
use Rattle.tc_rnc.specs.declared.tokens.Word.TheVariants.{Literal, LongLiteral}

-- a literal, with the quotes that open it
abbrev pub extent : Word → ℕ
extent (Literal s) = 1 + length s.now
extent (LongLiteral s) = 3 + length s.now
extent _ = 0
