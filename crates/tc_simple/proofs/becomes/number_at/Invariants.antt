use Rattle.std.proofs.Common.{◌≡◌, ◌+◌, drop, map}
use Rattle.tc_model.specs.Views as seen
use Rattle.tc_model.specs.Simplifies.{number_at}
use Rattle.tc_simple.specs.Nodes.{see_element}
use Rattle.tc_simple.proofs.becomes.number_at.Given as goal

abbrev pub invariant-loop-element : goal.invariant-loop-element
invariant-loop-element l = record {
  number : l.number ≡ l.element-index + 1;
  left : number_at (map see_element l.elements) (seen.place l.place) ≡ number_at (map see_element (drop l.element-index l.elements)) (seen.place l.place) + l.element-index;
}
