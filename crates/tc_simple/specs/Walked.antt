-- What is kept of the definitions of a syntax tree while its grammar is made.
use Rattle.std.specs.Prelude.{◌≡◌, ◌<◌, ◌≤◌, ℕ, Bool, List, None, length, map}
use Rattle.std.specs.List.{All}
use Rattle.tc_base.specs.declared.limits.TheConstants.{MOST_ELEMENT_PATTERNS}
use Rattle.tc_graph.specs.declared.cycles.State.{State}
use Rattle.tc_model.specs.CompactSyntaxLawful.{IsLawfulSyntax}
use Rattle.tc_model.specs.CompactSyntaxTrees.{Syntax}
use Rattle.tc_model.specs.Grammars.{Grammar}
use Rattle.tc_model.specs.Simplifies.{Simplifies}
use Rattle.tc_model.specs.SimplifiesCounts.{IsWithinCounts}
use Rattle.tc_model.specs.SimplifiesFaults.{twice_at, undefined_at, IsFaultless}
use Rattle.tc_simple.specs.Nodes.{elements_of, see_element, HasNumbersBelow}
use Rattle.tc_simple.specs.Resolves.{Resolves}
use Rattle.tc_simple.specs.declared.elements.Elem.{Elem}
use Rattle.tc_simple.specs.declared.groups.Table.{Table}

-- a mark for each definition
pub record AreMarks (t : Table) (marked : List Bool) : Type 0 where
  pub marks : length marked ≡ length t.patterns.items
  pub numbers : HasNumbersBelow t (length t.patterns.items)

-- a mark for each definition, and its component
pub record AreWalked (t : Table) (found : List State) (marked : List Bool) : Type 0 where
  pub marks : length marked ≡ length t.patterns.items
  pub states : length found ≡ length t.patterns.items
  pub numbers : HasNumbersBelow t (length found)

-- the number of a definition, where as many values are kept as there are definitions
pub record IsPlace (t : Table) (number kept : ℕ) : Type 0 where
  pub within : number < length t.patterns.items
  pub room : kept ≡ length t.patterns.items

-- the number of the start, and those of definitions in some order
pub record AreNumbers (t : Table) (first : ℕ) (all : List ℕ) : Type 0 where
  pub start : first < length t.patterns.items
  pub order : All (λ k. k < length t.patterns.items) all

-- no names clash, and all that are used are defined
pub record HasNames (s : Syntax) : Type 0 where
  pub once : twice_at s ≡ None
  pub defined : undefined_at s ≡ None

-- a syntax tree whose names are told by a table, with what is found from there
pub record IsResolved (s : Syntax) (t : Table) (first : ℕ) (marked : List Bool) (found : List State) (all : List ℕ) : Type 0 where
  pub lawful : IsLawfulSyntax s
  pub names : HasNames s
  pub resolves : Resolves s t first marked found all

-- the same of one without faults
pub record IsSound (s : Syntax) (t : Table) (first : ℕ) (marked : List Bool) (found : List State) (all : List ℕ) : Type 0 where
  pub lawful : IsLawfulSyntax s
  pub faultless : IsFaultless s
  pub resolves : Resolves s t first marked found all

-- its elements that are reached, where its grammar isn't too large
pub record AreCounted (s : Syntax) (t : Table) (marked : List Bool) (found : List Elem) : Type 0 where
  pub elements : map see_element found ≡ elements_of t marked s.definitions
  pub few : length found ≤ MOST_ELEMENT_PATTERNS
  pub within : (g : Grammar) × Simplifies s g × IsWithinCounts g

-- its grammar, which isn't too large
pub record IsGrammar (s : Syntax) (g : Grammar) : Type 0 where
  pub simplifies : Simplifies s g
  pub within : IsWithinCounts g
