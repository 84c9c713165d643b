-- How large a grammar is, and its element patterns.
use Rattle.std.specs.Prelude.{◌≡◌, ℕ, List, [], ◌∷◌, length, map}
use Rattle.tc_model.specs.Grammars.{ElementPattern, Grammar}
use Rattle.tc_model.specs.Simplifies.{Element, name_class}
use Rattle.tc_model.specs.SimplifiesCounts.{grammar_nodes, grammar_depth}
use Rattle.tc_model.specs.declared.grammar.Pat.{Pat}
use Rattle.tc_simple.specs.Becoming.{becomes, made_in}
use Rattle.tc_simple.specs.Sizes.{capped, two, size_of, size_in}
use Rattle.tc_simple.specs.declared.counts.Size.{Size}
use Rattle.tc_simple.specs.declared.groups.Table.{Table}

-- a size and those of the contents of elements, side by side
abbrev pub total_of : Table → List Size → Size → List Element → Size
total_of t sizes all [] = all
total_of t sizes all (e ∷ es) = total_of t sizes (two all (size_of (size_in t sizes) e.content)) es

-- what these elements become, where those are numbered
abbrev pub element_patterns_of : Table → List Pat → List Element → List Element → List ElementPattern
element_patterns_of t made numbered es = map (λ e. record { names = name_class e.names; content = becomes (made_in t made) numbered e.content }) es

-- a size and a number of element patterns are those of a grammar (of nodes and depth beyond 64 bits, the greatest number)
pub record IsSizeOf (grammar : Grammar) (z : Size) (count : ℕ) : Type 0 where
  pub nodes : z.nodes ≡ capped (grammar_nodes grammar)
  pub depth : z.depth ≡ capped (grammar_depth grammar)
  pub elements : count ≡ length grammar.elements
