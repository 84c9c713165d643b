-- How many rows there may be.
use Rattle.std.proofs.Common.{◌≤◌, ℕ, List, Option, Some, None, arith}
use Rattle.tc_base.specs.declared.limits.TheConstants.{GREATEST_LIMIT}
use Rattle.tc_answer.specs.Words.{Words, checks, proves, check, prove, Limits}
use Rattle.tc_top.specs.Checking.{most_rows}

limit_few : (limit : Option ℕ) (words operands : List (List ℕ)) → Limits words limit operands → most_rows limit ≤ GREATEST_LIMIT
limit_few None words operands l = omega arith
limit_few (Some n) words operands l = l.2.at_most

-- a limit of rows is at most so many
pub few_rows : {words : List (List ℕ)} {limit : Option ℕ} {input output sheet : List ℕ} → Words words (check limit input output sheet) → most_rows limit ≤ GREATEST_LIMIT
few_rows {limit = limit} (checks p l a schemas) = limit_few limit _ _ l

pub few_rows_proved : {words : List (List ℕ)} {limit : Option ℕ} {input output sheet : List ℕ} → Words words (prove limit input output sheet) → most_rows limit ≤ GREATEST_LIMIT
few_rows_proved {limit = limit} (proves p l a schemas) = limit_few limit _ _ l
