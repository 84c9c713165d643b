-- Why declarations have no grammar, and what their grammar allows.
use Rattle.std.specs.Prelude.{ℕ, List, ◌↔◌}
use Rattle.tc_model.specs.Grammars.{Grammar}
use Rattle.tc_model.specs.SimplifiesCounts.{Count, nodes, depth, elements, Passes, IsWithinCounts}
use Rattle.tc_model.specs.Trees.{Trees}
use Rattle.tc_model.specs.Validity.{IsValid}
use Rattle.tc_dtd.specs.Declarations.{Declaration}
use Rattle.tc_dtd.specs.DtdGrammar.{grammar_with, IsGrammarOfDtd}
use Rattle.tc_dtd.specs.DtdValidity.{IsDtdValid}
use Rattle.tc_dtd.specs.declared.schema.DtdGrammarFault.{DtdGrammarFault}
use Rattle.tc_dtd.specs.declared.schema.DtdGrammarFault.TheVariants.{TooManyNodes, TooNested, TooManyElements, NoMemory}

-- the grammar passes a count, and no earlier one
abbrev pub IsTooLarge : List Declaration → List ℕ → Count → Type 0
IsTooLarge dtd root count = (g : Grammar) × IsGrammarOfDtd dtd root g × Passes g count

-- each refusal has its cause; want of memory has none
abbrev pub Refuses : List Declaration → List ℕ → DtdGrammarFault → Type 0
Refuses dtd root TooManyNodes = IsTooLarge dtd root nodes
Refuses dtd root TooNested = IsTooLarge dtd root depth
Refuses dtd root TooManyElements = IsTooLarge dtd root elements
Refuses dtd root NoMemory = Unit {0}

-- the grammar of these elements passes this count, whatever element is the document's
abbrev pub FaultFits : List Declaration → DtdGrammarFault → Type 0
FaultFits kept TooManyNodes = (root : List ℕ) → Passes (grammar_with kept root) nodes
FaultFits kept TooNested = (root : List ℕ) → Passes (grammar_with kept root) depth
FaultFits kept TooManyElements = (root : List ℕ) → Passes (grammar_with kept root) elements
FaultFits kept NoMemory = ⊥

-- or none
abbrev pub FitsCounts : List Declaration → Type 0
FitsCounts kept = (root : List ℕ) → IsWithinCounts (grammar_with kept root)

-- for the grammar those documents are valid that are for the declarations
abbrev pub AllowsTheSame : List Declaration → List ℕ → Grammar → Type 0
AllowsTheSame dtd root g = (d : Trees) → IsValid g d ↔ IsDtdValid dtd root d
