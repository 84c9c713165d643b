-- Definitions worked out one after the other, each after those to which it refers outside its elements.
use Rattle.std.specs.Prelude.{◌≡◌, ◌<◌, ℕ, Bool, true, false, List, length, Some, slice_index, slice_index_or, slice_set, MatchBool}
use Rattle.std.specs.List.{Contains}
use Rattle.tc_model.specs.CompactSyntaxTrees.{SyntaxPattern, ref, Syntax}
use Rattle.tc_model.specs.Grammars as g
use Rattle.tc_model.specs.Views as seen
use Rattle.tc_model.specs.Simplifies.{Element, Becomes}
use Rattle.tc_model.specs.SimplifiesCounts.{pattern_nodes, pattern_depth}
use Rattle.tc_model.specs.declared.grammar.Pat.{Pat}
use Rattle.tc_model.specs.declared.grammar.Pat.TheVariants.{NotAllowed}
use Rattle.tc_rnc.specs.Views as see
use Rattle.tc_rnc.specs.declared.syntax.SPat.{SPat}
use Rattle.tc_simple.specs.Becoming.{becomes, made_in}
use Rattle.tc_graph.specs.Graph.{is_marked}
use Rattle.tc_simple.specs.Nodes.{nodes, pattern_at}
use Rattle.tc_simple.specs.Sizes.{capped, leaf, size_of, size_in}
use Rattle.tc_simple.specs.Tables.{number_of, IsTable}
use Rattle.tc_graph.specs.Walks.{state_at}
use Rattle.tc_simple.specs.declared.counts.Size.{Size}
use Rattle.tc_graph.specs.declared.cycles.State.{State}
use Rattle.tc_graph.specs.declared.cycles.State.TheVariants.{Done}
use Rattle.tc_simple.specs.declared.groups.Table.{Table}

-- a reference that stands in a definition, outside its elements
abbrev pub Refers : Table → ℕ → List ℕ → Type 0
Refers t k n = (p : SPat) × (pattern_at t k ≡ Some p) × ((place : ℕ) × Contains (nodes false (see.pattern p)) (ref n place))

-- Each definition that is marked has a component of its own, and refers to marked ones of earlier components.
pub record IsOrderly (s : Syntax) (t : Table) (marks : List Bool) (states : List State) (order : List ℕ) : Type 0 where
  pub table : IsTable s t
  pub earlier : (k c : ℕ) (n : List ℕ) → is_marked marks k ≡ true → state_at states k ≡ Done c → Refers t k n
      → (j : ℕ) × (d : ℕ) × (number_of t n ≡ Some j) × (is_marked marks j ≡ true) × (state_at states j ≡ Done d) × (d < c)
  pub ordered : (c : ℕ) → c < length order → state_at states (slice_index order c) ≡ Done c
  pub alone : (k c : ℕ) → is_marked marks k ≡ true → state_at states k ≡ Done c → slice_index order c ≡ k

-- what is put for a definition
abbrev pub PutsSize : Table → List Bool → ℕ → List Size → List Size → Type 0
PutsSize t marks k old new = MatchBool (is_marked marks k) ((p : SPat) × (pattern_at t k ≡ Some p) × (new ≡ slice_set old k (size_of (size_in t old) (see.pattern p)))) (new ≡ old)

abbrev pub PutsPattern : Table → List Bool → List Element → ℕ → List Pat → List Pat → Type 0
PutsPattern t marks es k old new =
    MatchBool (is_marked marks k) ((p : SPat) × (q : Pat) × (pattern_at t k ≡ Some p) × (new ≡ slice_set old k q) × (seen.pattern q ≡ becomes (made_in t old) es (see.pattern p))) (new ≡ old)

-- a size is that of a pattern
pub record Measures (z : Size) (p : g.Pattern) : Type 0 where
  pub nodes : z.nodes ≡ capped (pattern_nodes p)
  pub depth : z.depth ≡ capped (pattern_depth p)

-- the size of what a pattern becomes
abbrev pub IsSize : Syntax → List Element → SyntaxPattern → Size → Type 0
IsSize s es q z = (p : g.Pattern) × Becomes s es q p × Measures z p

-- the sizes of the definitions that are marked, of the first so many components
abbrev pub AreSized : Syntax → List Element → Table → List Bool → List State → ℕ → List Size → Type 0
AreSized s es t marks states count sizes =
    (k c : ℕ) (p : SPat) → is_marked marks k ≡ true → state_at states k ≡ Done c → c < count → pattern_at t k ≡ Some p → IsSize s es (see.pattern p) (slice_index_or sizes k leaf)

abbrev pub AreMade : Syntax → List Element → Table → List Bool → List State → ℕ → List Pat → Type 0
AreMade s es t marks states count made =
    (k c : ℕ) (p : SPat) → is_marked marks k ≡ true → state_at states k ≡ Done c → c < count → pattern_at t k ≡ Some p → Becomes s es (see.pattern p) (seen.pattern (slice_index_or made k NotAllowed))
