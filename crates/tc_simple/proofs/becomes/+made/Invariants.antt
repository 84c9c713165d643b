use Rattle.std.proofs.Common.{◌≡◌, drop, map}
use Rattle.tc_model.specs.Views as seen
use Rattle.tc_model.proofs.ViewsGrammar.{patterns_then}
use Rattle.tc_rnc.specs.Views as see
use Rattle.tc_simple.specs.Becoming.{all_become, made_in}
use Rattle.tc_simple.specs.Nodes.{see_element}
use Rattle.tc_simple.proofs.becomes.+made.Given as goal

abbrev pub invariant-patterns-loop-one : goal.invariant-patterns-loop-one
invariant-patterns-loop-one l =
    patterns_then (seen.patterns l.out.items) (all_become (made_in l.table l.made) (map see_element l.elements) (see.patterns (drop l.one-index l.syntax)))
    ≡ all_become (made_in l.table l.made) (map see_element l.elements) (see.patterns l.syntax)
