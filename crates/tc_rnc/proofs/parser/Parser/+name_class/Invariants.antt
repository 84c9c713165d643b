use Rattle.std.proofs.Common.{◌*◌, ◌+◌, length}
use Rattle.tc_rnc.specs.Views as seen
use Rattle.tc_rnc.specs.Scopes.{scope_of}
use Rattle.tc_rnc.proofs.ClassLaws.{ClassesSoFar}
use Rattle.tc_rnc.proofs.parser.Parser.+name_class.Given as goal

abbrev pub decreases-name_class : goal.decreases-name_class
decreases-name_class l = 4 * length (seen.tokens l.tokens.now) + 2

abbrev pub decreases-name_classes : goal.decreases-name_classes
decreases-name_classes l = 4 * length (seen.tokens l.tokens.now) + 2

abbrev pub decreases-closed_name_class : goal.decreases-closed_name_class
decreases-closed_name_class l = 4 * length (seen.tokens l.tokens.now) + 3

abbrev pub decreases-simple_name_class : goal.decreases-simple_name_class
decreases-simple_name_class l = 4 * length (seen.tokens l.tokens.now) + 1

abbrev pub decreases-innermost_name_class : goal.decreases-innermost_name_class
decreases-innermost_name_class l = 4 * length (seen.tokens l.tokens.now)

abbrev pub invariant-name_classes-loop-all : goal.invariant-name_classes-loop-all
invariant-name_classes-loop-all l = ClassesSoFar (seen.end l.self.end) (scope_of l.self.scope) l.deepest (seen.tokens l.tokens) (seen.tokens l.rest) l.first l.all.items

abbrev pub decreases-name_classes-loop-all : goal.decreases-name_classes-loop-all
decreases-name_classes-loop-all l = length (seen.tokens l.rest)
