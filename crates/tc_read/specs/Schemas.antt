-- What contracts see of a schema that was read.
use Rattle.std.specs.Prelude.{ℕ, List}
use Rattle.tc_base.specs.declared.Limit.{Limit}
use Rattle.tc_base.specs.declared.Limit.TheVariants.{Pattern, Depth, Elements}
use Rattle.tc_base.specs.declared.limits.TheConstants.{MOST_PATTERN_NODES, GREATEST_PATTERN_DEPTH, MOST_ELEMENT_PATTERNS}
use Rattle.tc_model.specs.Grammars as g
use Rattle.tc_model.specs.RncText.{RncText}
use Rattle.tc_model.specs.Views.{grammar}
use Rattle.tc_model.specs.SimplifiesCounts.{IsWithinCounts, Passes, nodes, depth, elements}
use Rattle.tc_read.specs.declared.schemas.Schema.{Schema}
use Rattle.tc_read.specs.declared.schemas.Schema.TheVariants.{Small, TooLarge}

-- the first limit on its size that a grammar passes, and its number
pub data PassesSize (x : g.Grammar) : Limit → ℕ → Type 0 where
  passes_pattern : Passes x nodes → PassesSize x Pattern MOST_PATTERN_NODES
  passes_depth : Passes x depth → PassesSize x Depth GREATEST_PATTERN_DEPTH
  passes_elements : Passes x elements → PassesSize x Elements MOST_ELEMENT_PATTERNS

-- the text spells the grammar, which is small enough; or it spells one that passes the limit on its size
abbrev pub IsSchemaOf : List ℕ → Schema → Type 0
IsSchemaOf bytes (Small x) = RncText bytes (grammar x) × IsWithinCounts (grammar x)
IsSchemaOf bytes (TooLarge kind number) = (x : g.Grammar) × RncText bytes x × PassesSize x kind number
