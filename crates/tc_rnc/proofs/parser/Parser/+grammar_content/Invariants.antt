use Rattle.std.proofs.Common.{◌*◌, ◌+◌, length}
use Rattle.tc_rnc.specs.Scopes.{scope_of}
use Rattle.tc_rnc.specs.Views as seen
use Rattle.tc_rnc.proofs.DefinitionLaws.{DefinitionsSoFar}
use Rattle.tc_rnc.proofs.parser.Parser.+grammar_content.Given as goal

abbrev pub decreases-definitions : goal.decreases-definitions
decreases-definitions l = 3 * l.deepest + 2

abbrev pub decreases-grammar_content : goal.decreases-grammar_content
decreases-grammar_content l = 3 * l.deepest + 1

abbrev pub decreases-braced_definitions : goal.decreases-braced_definitions
decreases-braced_definitions l = 3 * l.deepest

abbrev pub invariant-definitions-loop-rest : goal.invariant-definitions-loop-rest
invariant-definitions-loop-rest l = DefinitionsSoFar (seen.end l.self.end) (scope_of l.self.scope) l.deepest (seen.tokens l.tokens) (seen.tokens l.rest) l.initial.defs.items l.defs.items

abbrev pub decreases-definitions-loop-rest : goal.decreases-definitions-loop-rest
decreases-definitions-loop-rest l = length (seen.tokens l.rest)
