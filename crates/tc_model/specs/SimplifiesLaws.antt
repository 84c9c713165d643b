-- Laws of texts in compact syntax and their grammars.
use Rattle.std.specs.Prelude.{◌≡◌, ℕ, List, length}
use Rattle.tc_model.specs.Grammars.{Pattern, not_allowed, ref, choice, Patterns, no_more, more, Grammar, IsGrammar}
use Rattle.tc_model.specs.CompactSyntaxTrees.{Syntax}
use Rattle.tc_model.specs.CompactSyntax.{CompactSyntax}
use Rattle.tc_model.specs.CompactSyntaxLawful.{IsLawfulSyntax}
use Rattle.tc_model.specs.SimplifiesFaults.{Fault, Fails}
use Rattle.tc_model.specs.Simplifies.{IsGrammarOf, Simplifies}
use Rattle.tc_model.specs.RncText.{RncMeans, RncText}

abbrev mutual
  -- choices, references and `notAllowed` alone, as simplification leaves the start (RELAX NG, 7.1.5)
  pub IsStart : Pattern → Type 0
  IsStart not_allowed = Unit {0}
  IsStart (ref k) = Unit {0}
  IsStart (choice ps) = AreStarts ps
  IsStart _ = ⊥

  pub AreStarts : Patterns → Type 0
  AreStarts no_more = Unit {0}
  AreStarts (more p ps) = IsStart p × AreStarts ps

-- a text has at most one syntax tree
abbrev pub HasOneSyntax : Type 0
HasOneSyntax = (bytes : List ℕ) (s t : Syntax) → CompactSyntax bytes s → CompactSyntax bytes t → s ≡ t

-- which is lawful, and no place in it is after the text's end
abbrev pub HasLawfulSyntax : Type 0
HasLawfulSyntax = (bytes : List ℕ) (s : Syntax) → CompactSyntax bytes s → IsLawfulSyntax s × (s.end ≡ length bytes)

-- a syntax tree stands for at most one grammar, also one that has a fault
abbrev pub HasOneGrammar : Type 0
HasOneGrammar = (s : Syntax) (g h : Grammar) → IsGrammarOf s g → IsGrammarOf s h → g ≡ h

-- so a text means at most one, which is the one that it spells where it has no fault
abbrev pub HasOneRncText : Type 0
HasOneRncText = (bytes : List ℕ) (g h : Grammar) → RncMeans bytes g → RncMeans bytes h → g ≡ h

-- a syntax tree has at most one fault, and then no grammar
abbrev pub HasOneFault : Type 0
HasOneFault = (s : Syntax) (f h : Fault) → Fails s f → Fails s h → f ≡ h

abbrev pub HasNoGrammar : Type 0
HasNoGrammar = (s : Syntax) (f : Fault) (g : Grammar) → Fails s f → Simplifies s g → ⊥

abbrev pub HasLawfulStart : Type 0
HasLawfulStart = (s : Syntax) (g : Grammar) → Simplifies s g → IsStart g.start

-- the grammar of a text is well-formed
abbrev pub HasLawfulGrammar : Type 0
HasLawfulGrammar = (bytes : List ℕ) (g : Grammar) → RncText bytes g → IsGrammar g
