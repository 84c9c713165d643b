-- The grammar of a schema in RELAX NG's compact syntax: `RncText bytes grammar` (ISO/IEC 19757-2, Annex C, and the RELAX NG Specification,
-- OASIS 2001, 4, as far as they tell elements and text).
use Rattle.std.specs.Prelude.{ℕ, List}
use Rattle.tc_model.specs.Grammars.{Grammar}
use Rattle.tc_model.specs.CompactSyntaxTrees.{Syntax}
use Rattle.tc_model.specs.CompactSyntax.{CompactSyntax}
use Rattle.tc_model.specs.Simplifies.{IsGrammarOf, Simplifies}

-- The bytes spell a syntax tree that stands for the grammar. A text means one grammar at most, also one that is refused for a fault of its
-- definitions: so what holds of each grammar that a text means says more than what holds of those alone that it spells without a fault.
abbrev pub RncMeans : List ℕ → Grammar → Type 0
RncMeans bytes grammar = (syntax : Syntax) × CompactSyntax bytes syntax × IsGrammarOf syntax grammar

-- the bytes spell a syntax tree that simplifies to the grammar: it stands for it, and has no fault
abbrev pub RncText : List ℕ → Grammar → Type 0
RncText bytes grammar = (syntax : Syntax) × CompactSyntax bytes syntax × Simplifies syntax grammar
