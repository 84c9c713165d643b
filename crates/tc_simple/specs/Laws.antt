-- That nothing is left open of a syntax tree.
use Rattle.std.specs.Prelude.{◌⊎◌}
use Rattle.tc_model.specs.Grammars.{Grammar}
use Rattle.tc_model.specs.CompactSyntaxTrees.{Syntax}
use Rattle.tc_model.specs.CompactSyntaxLawful.{IsLawfulSyntax}
use Rattle.tc_model.specs.Simplifies.{Simplifies}
use Rattle.tc_model.specs.SimplifiesFaults.{Fault, Fails}

-- one that is lawful has a grammar or a fault
abbrev pub HasGrammarOrFault : Type 0
HasGrammarOrFault = (s : Syntax) → IsLawfulSyntax s → ((grammar : Grammar) × Simplifies s grammar) ⊎ ((f : Fault) × Fails s f)
