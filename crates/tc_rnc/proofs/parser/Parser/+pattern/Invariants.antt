use Rattle.std.proofs.Common.{◌*◌, ◌+◌, length}
use Rattle.tc_rnc.specs.Connectors as view
use Rattle.tc_rnc.specs.Views as seen
use Rattle.tc_rnc.specs.Scopes.{scope_of}
use Rattle.tc_rnc.proofs.ItemLaws.{ItemsSoFar}
use Rattle.tc_rnc.proofs.parser.Parser.+pattern.Given as goal

abbrev pub decreases-pattern : goal.decreases-pattern
decreases-pattern l = 6 * l.deepest + 5

abbrev pub decreases-particles : goal.decreases-particles
decreases-particles l = 6 * l.deepest + 4

abbrev pub decreases-particle : goal.decreases-particle
decreases-particle l = 6 * l.deepest + 3

abbrev pub decreases-primary : goal.decreases-primary
decreases-primary l = 6 * l.deepest + 2

abbrev pub decreases-element : goal.decreases-element
decreases-element l = 6 * l.deepest + 1

abbrev pub decreases-mixed : goal.decreases-mixed
decreases-mixed l = 6 * l.deepest + 1

abbrev pub decreases-enclosed : goal.decreases-enclosed
decreases-enclosed l = 6 * l.deepest

abbrev pub invariant-particles-loop-all : goal.invariant-particles-loop-all
invariant-particles-loop-all l = ItemsSoFar (seen.end l.self.end) (scope_of l.self.scope) (view.connector l.between) l.deepest (seen.tokens l.tokens) (seen.tokens l.rest) l.first l.all.items

abbrev pub decreases-particles-loop-all : goal.decreases-particles-loop-all
decreases-particles-loop-all l = length (seen.tokens l.rest)
