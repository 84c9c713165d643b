use Rattle.std.proofs.Common.{map, length}
use denote.Text.{Utf8}
use denote.Shadow.{shadow}
use Rattle.tc_path.specs.Views.{token}
use Rattle.tc_path.proofs.TokenLaws.{TokensSoFar}
use Rattle.tc_path.proofs.token.tokens.Given as goal

abbrev pub invariant-loop-front : goal.invariant-loop-front
invariant-loop-front l = record { text : shadow (Utf8 l.rest); so_far : TokensSoFar l.text (map token l.found.items) l.rest }

abbrev pub decreases-loop-front : goal.decreases-loop-front
decreases-loop-front l = length l.rest
