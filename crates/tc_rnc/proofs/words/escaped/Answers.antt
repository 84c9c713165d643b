use Rattle.std.proofs.Common.{sym}
use Rattle.std.specs.Cmp.Lexicographic.{bytes_decides}
use Rattle.tc_rnc.proofs.WordLaws.{no_escaped}
use Rattle.tc_rnc.proofs.words.escaped.Goals as goal

pub returns-then-begins : goal.returns-then-begins
returns-then-begins c = no_escaped c.in_ok-rest.ensures c.in_ok-name.ensures ((bytes_decides _ _).0 (sym c.if-eq.ensures)) c.if-begins.ensures.1
