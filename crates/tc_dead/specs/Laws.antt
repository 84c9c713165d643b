-- Laws of marked stylesheets and of the plain schema.
use Rattle.std.specs.Prelude.{◌≡◌, ◌≤◌, ℕ, List, map, Contains, option_map}
use Rattle.tc_base.specs.declared.limits.TheConstants.{MOST_OUTPUT_STATES}
use Rattle.tc_model.specs.Grammars.{Grammar, IsGrammar}
use Rattle.tc_model.specs.States.{output, state_count}
use Rattle.tc_model.specs.SimplifiesCounts.{IsWithinCounts}
use Rattle.tc_model.specs.Chains.{Chain}
use Rattle.tc_model.specs.Sheets.{MatchPattern, Sheet}
use Rattle.tc_model.specs.Meaning.{rule_of}
use Rattle.tc_model.specs.Symbols.{symbols_of}
use Rattle.tc_model.specs.Numberings.{predicates_of, moves_of, looks_of}
use Rattle.tc_dead.specs.Spots.{Spot, spots_of, numbered_rules, numbered_rule_of}
use Rattle.tc_model.specs.Trees.{Trees}
use Rattle.tc_dead.specs.Instantiated.{IsInstantiated}
use Rattle.tc_dead.specs.Marked.{marked_at, plain_schema}

-- the numbered rule of a node is the rule of the node
abbrev pub IsRuleOfNode : Type 0
IsRuleOfNode = (s : Sheet) (m : ℕ) (c : Chain) → rule_of s.rules m c ≡ option_map (λ r. r.rule) (numbered_rule_of (numbered_rules s) m c)

-- a document instantiates spots of the stylesheet alone
abbrev pub AreSpots : Type 0
AreSpots = (s : Sheet) (d : Trees) (p : Spot) → IsInstantiated s d p → Contains (spots_of s) p

-- the plain schema is well-formed
abbrev pub IsPlainLawful : Type 0
IsPlainLawful = IsGrammar plain_schema

-- and within all limits of schemas: of nodes, of depth, of element patterns and of states
abbrev pub IsPlainSmall : Type 0
IsPlainSmall = IsWithinCounts plain_schema × (state_count plain_schema output ≤ MOST_OUTPUT_STATES)

-- the stylesheets in which one spot of a stylesheet is marked, or another, have the same symbols, with any input
abbrev pub HaveSameSymbols : Type 0
HaveSameSymbols =
    (input : Grammar) (s : Sheet) (p q : Spot) → Contains (spots_of s) p → Contains (spots_of s) q
    → symbols_of input plain_schema (marked_at p s) ≡ symbols_of input plain_schema (marked_at q s)

-- the predicates of the stylesheet, whatever the spot
abbrev pub HaveItsPredicates : Type 0
HaveItsPredicates = (s : Sheet) (p : Spot) → predicates_of (marked_at p s) ≡ predicates_of s

abbrev pub patterns_of : Sheet → List MatchPattern
patterns_of s = map (λ r. r.pattern) s.rules

-- its match patterns
abbrev pub HaveItsPatterns : Type 0
HaveItsPatterns = (s : Sheet) (p : Spot) → patterns_of (marked_at p s) ≡ patterns_of s

-- the same moves as one another
abbrev pub HaveSameMoves : Type 0
HaveSameMoves = (s : Sheet) (p q : Spot) → moves_of (marked_at p s) ≡ moves_of (marked_at q s)

-- and its looks
abbrev pub HaveItsLooks : Type 0
HaveItsLooks = (s : Sheet) (p : Spot) → looks_of (marked_at p s) ≡ looks_of s
