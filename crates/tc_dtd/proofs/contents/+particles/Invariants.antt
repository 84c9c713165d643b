use Rattle.std.proofs.Common.{◌+◌, ◌*◌, length}
use denote.Shadow.{shadow}
use denote.Text.{Utf8}
use Rattle.tc_dtd.specs.Views.{particle, particles}
use Rattle.tc_dtd.proofs.ContentsLaws.{Joins}
use Rattle.tc_dtd.proofs.contents.+particles.Given as goal

abbrev pub decreases-list : goal.decreases-list
decreases-list l = 4 * l.deepest + 3

abbrev pub decreases-join : goal.decreases-join
decreases-join l = 4 * l.deepest + 2

abbrev pub decreases-particle : goal.decreases-particle
decreases-particle l = 4 * l.deepest + 1

abbrev pub decreases-group : goal.decreases-group
decreases-group l = 4 * l.deepest

-- the particles so far; the rest is text
abbrev pub invariant-join-loop-next : goal.invariant-join-loop-next
invariant-join-loop-next l =
    shadow (Utf8 l.rest) × Joins l.connector l.deepest l.text l.rest (particle l.first) (particles l.all.items)

abbrev pub decreases-join-loop-next : goal.decreases-join-loop-next
decreases-join-loop-next l = length l.rest
