-- How large a grammar is, and how large it may be: limits of this project's choice.
use Rattle.std.specs.Prelude.{ℕ, ◌+◌, ◌≤◌, ◌<◌, length, List, [], ◌∷◌, map, sum, max}
use Rattle.tc_base.specs.declared.limits.TheConstants.{MOST_PATTERN_NODES, GREATEST_PATTERN_DEPTH, MOST_ELEMENT_PATTERNS}
use Rattle.tc_model.specs.Grammars.{Pattern, group, choice, interleave, one_or_more, Patterns, no_more, more, Grammar}

abbrev mutual
  -- how many nodes a pattern has: a list under one connector is one beside its members
  pub pattern_nodes : Pattern → ℕ
  pattern_nodes (group ps) = 1 + patterns_nodes ps
  pattern_nodes (choice ps) = 1 + patterns_nodes ps
  pattern_nodes (interleave ps) = 1 + patterns_nodes ps
  pattern_nodes (one_or_more p) = 1 + pattern_nodes p
  pattern_nodes _ = 1

  pub patterns_nodes : Patterns → ℕ
  patterns_nodes no_more = 0
  patterns_nodes (more p ps) = pattern_nodes p + patterns_nodes ps

abbrev mutual
  -- how deep a pattern nests: one that stands alone has depth 1
  pub pattern_depth : Pattern → ℕ
  pattern_depth (group ps) = 1 + patterns_depth ps
  pattern_depth (choice ps) = 1 + patterns_depth ps
  pattern_depth (interleave ps) = 1 + patterns_depth ps
  pattern_depth (one_or_more p) = 1 + pattern_depth p
  pattern_depth _ = 1

  pub patterns_depth : Patterns → ℕ
  patterns_depth no_more = 0
  patterns_depth (more p ps) = max (pattern_depth p) (patterns_depth ps)

-- the nodes of the start and of all contents
abbrev pub grammar_nodes : Grammar → ℕ
grammar_nodes g = pattern_nodes g.start + sum (map (λ e. pattern_nodes e.content) g.elements)

abbrev pub greatest : List ℕ → ℕ
greatest [] = 0
greatest (n ∷ ns) = max n (greatest ns)

-- the greatest depth of the start and of all contents
abbrev pub grammar_depth : Grammar → ℕ
grammar_depth g = max (pattern_depth g.start) (greatest (map (λ e. pattern_depth e.content) g.elements))

-- the most nodes, the greatest depth and the most element patterns
abbrev pub most_nodes : ℕ
most_nodes = MOST_PATTERN_NODES

abbrev pub greatest_depth : ℕ
greatest_depth = GREATEST_PATTERN_DEPTH

abbrev pub most_elements : ℕ
most_elements = MOST_ELEMENT_PATTERNS

pub record IsWithinCounts (g : Grammar) : Type 0 where
  pub nodes : grammar_nodes g ≤ most_nodes
  pub depth : grammar_depth g ≤ greatest_depth
  pub elements : length g.elements ≤ most_elements

-- which of these a grammar passes
pub data Count : Type 0 where
  nodes depth elements : Count

-- The count that a grammar passes: the first of these, in this order.
abbrev pub Passes : Grammar → Count → Type 0
Passes g nodes = most_nodes < grammar_nodes g
Passes g depth = (grammar_nodes g ≤ most_nodes) × (greatest_depth < grammar_depth g)
Passes g elements = (grammar_nodes g ≤ most_nodes) × (grammar_depth g ≤ greatest_depth) × (most_elements < length g.elements)
