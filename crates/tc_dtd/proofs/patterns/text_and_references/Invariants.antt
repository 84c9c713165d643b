use Rattle.std.proofs.Common.{◌≡◌, drop}
use Rattle.tc_model.specs.Grammars as g
use Rattle.tc_model.specs.Views as seen
use Rattle.tc_model.proofs.ViewsGrammar.{patterns_then}
use Rattle.tc_dtd.specs.Built as built
use Rattle.tc_dtd.specs.Views as see
use Rattle.tc_dtd.proofs.patterns.text_and_references.Given as goal

abbrev pub invariant-loop-name : goal.invariant-loop-name
invariant-loop-name l =
    patterns_then (seen.patterns l.out.items) (built.references (see.names l.found.keys) (see.names (drop l.name-index l.names))) ≡ g.more g.text (built.references (see.names l.found.keys) (see.names l.names))
