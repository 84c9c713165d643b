-- The number before operands, behind a mark.
use Rattle.std.proofs.Common.{ℕ, List, Option, Some, None, codes}
use Rattle.tc_base.specs.declared.limits.TheConstants.{GREATEST_LIMIT}
use Rattle.tc_answer.specs.Words.{Limits, PieceSizes}
use Rattle.tc_answer.specs.Numbered.{Numbered}
use Rattle.tc_answer.specs.declared.limits.TheConstants.{LARGEST_PIECE}

-- a limit and the size of pieces are such a number
pub limits_are : (words operands : List (List ℕ)) (limit : Option ℕ) → Numbered (codes "--limit") GREATEST_LIMIT words limit operands → Limits words limit operands
limits_are words operands None h = h
limits_are words operands (Some n) h = h

pub are_limits : (words operands : List (List ℕ)) (limit : Option ℕ) → Limits words limit operands → Numbered (codes "--limit") GREATEST_LIMIT words limit operands
are_limits words operands None h = h
are_limits words operands (Some n) h = h

pub sizes_are : (words operands : List (List ℕ)) (size : Option ℕ) → Numbered (codes "--stream") LARGEST_PIECE words size operands → PieceSizes words size operands
sizes_are words operands None h = h
sizes_are words operands (Some n) h = h

pub are_sizes : (words operands : List (List ℕ)) (size : Option ℕ) → PieceSizes words size operands → Numbered (codes "--stream") LARGEST_PIECE words size operands
are_sizes words operands None h = h
are_sizes words operands (Some n) h = h
