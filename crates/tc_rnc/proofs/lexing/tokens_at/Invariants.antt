use Rattle.std.proofs.Common.{IsUtf8, length}
use Rattle.tc_rnc.specs.Lexed.{ReadsTokens}
use Rattle.tc_rnc.specs.Views as seen
use Rattle.tc_rnc.proofs.lexing.tokens_at.Given as goal

-- the tokens so far
abbrev pub invariant-loop-token : goal.invariant-loop-token
invariant-loop-token l = record {
  reads : ReadsTokens l.total l.text (seen.tokens l.list.items) l.rest;
  text : IsUtf8 l.rest;
}

abbrev pub decreases-loop-token : goal.decreases-loop-token
decreases-loop-token l = length l.rest
