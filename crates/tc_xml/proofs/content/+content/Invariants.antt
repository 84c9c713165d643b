use Rattle.std.proofs.Common.{◌+◌, ◌*◌, length}
use denote.Shadow.{shadow}
use denote.Text.{Utf8}
use Rattle.tc_xml.specs.Tags.{in_scope}
use Rattle.tc_xml.proofs.ElementLaws.{Content}
use Rattle.tc_xml.proofs.content.+content.Given as goal

abbrev pub decreases-body : goal.decreases-body
decreases-body l = 4 * l.depth + 3

abbrev pub decreases-content : goal.decreases-content
decreases-content l = 4 * l.depth + 2

abbrev pub decreases-item : goal.decreases-item
decreases-item l = 4 * l.depth + 1

abbrev pub decreases-element : goal.decreases-element
decreases-element l = 4 * l.depth

-- the content so far; the rest is text
abbrev pub invariant-content-loop-gathered : goal.invariant-content-loop-gathered
invariant-content-loop-gathered l =
    shadow (Utf8 l.rest) × Content l.total (in_scope l.scope) l.depth l.text l.rest l.initial.gathered l.gathered

abbrev pub decreases-content-loop-gathered : goal.decreases-content-loop-gathered
decreases-content-loop-gathered l = length l.rest
