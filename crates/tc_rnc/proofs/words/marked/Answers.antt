use Rattle.std.proofs.Common.{sym}
use Rattle.tc_model.specs.CompactSyntaxTokens.{other}
use Rattle.tc_scan.proofs.NamesLaws.{at_none}
use Rattle.tc_rnc.proofs.WordLaws.{backslash_word, no_mark_at_end, no_mark_at}
use Rattle.tc_rnc.proofs.words.marked.Goals as goal

pub returns-in-Some : goal.returns-in-Some
returns-in-Some c = backslash_word c.in-Some.ensures c.requires

pub returns-in_err-first : goal.returns-in_err-first
returns-in_err-first c = at_none _ c.from_residual.ensures (no_mark_at_end c.in_err-first.ensures)

pub returns-then-is_mark : goal.returns-then-is_mark
returns-then-is_mark c = other c.in_ok-first.ensures.1 (sym c.if-is_mark.ensures)

pub returns-else-is_mark : goal.returns-else-is_mark
returns-else-is_mark c = no_mark_at c.in_ok-first.first c.in_ok-first.rest.now c.in_default.ensures c.in_ok-first.ensures.1 (sym c.if-is_mark.ensures)
