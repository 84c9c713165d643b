-- The schema of declarations of elements: `IsGrammarOfDtd declarations root grammar`. Which patterns it has, of several that mean the same, is
-- this project's choice, since their nodes are counted.
use Rattle.std.specs.Prelude.{◌≡◌, ◌+◌, ℕ, List, [], ◌∷◌, map, bytes_eq, Option, None, Some, if◌then◌else◌}
use Rattle.std.specs.List.{Contains}
use Rattle.std.specs.Option.{option_map}
use Rattle.tc_model.specs.Grammars as g
use Rattle.tc_model.specs.Grammars.{Pattern, Patterns, ElementPattern, Grammar}
use Rattle.tc_model.specs.Simplifies.{both}
use Rattle.tc_dtd.specs.Declarations as d
use Rattle.tc_dtd.specs.Declarations.{Particle, Particles, Content, nothing, anything, mixed, children, Declaration, declared, names_in}

-- the names of the elements that a content may hold: where it may hold anything, all that are declared
abbrev pub mentioned : List Declaration → Content → List (List ℕ)
mentioned dtd nothing = []
mentioned dtd anything = map (λ d. d.name) dtd
mentioned dtd (mixed ns) = ns
mentioned dtd (children p) = names_in p

-- what an element named `root` may hold, at any depth
pub data IsReached (dtd : List Declaration) (root : List ℕ) : List ℕ → Type 0 where
  at_root : IsReached dtd root root
  within : {n m : List ℕ} {c : Content} → IsReached dtd root n → declared dtd n ≡ Some c → Contains (mentioned dtd c) m → IsReached dtd root m

-- those of these declarations whose elements are reached, in their order
pub data Keeps (dtd : List Declaration) (root : List ℕ) : List Declaration → List Declaration → Type 0 where
  keeps_none : Keeps dtd root [] []
  keeps : {x : Declaration} {xs kept : List Declaration} → IsReached dtd root x.name → Keeps dtd root xs kept → Keeps dtd root (x ∷ xs) (x ∷ kept)
  leaves : {x : Declaration} {xs kept : List Declaration} → (IsReached dtd root x.name → ⊥) → Keeps dtd root xs kept → Keeps dtd root (x ∷ xs) kept

-- the number of the element with this name, from 1
abbrev pub number_of : List Declaration → List ℕ → Option ℕ
number_of [] n = None
number_of (x ∷ xs) n = if bytes_eq x.name n then Some 1 else option_map (λ k. k + 1) (number_of xs n)

-- a reference to the element with this name, of these; to another, which isn't declared, nothing is allowed
abbrev pub reference : List Declaration → List ℕ → Pattern
reference kept n = elim (number_of kept n) [ Some k ↦ g.ref k | None ↦ g.not_allowed ]

abbrev pub references : List Declaration → List (List ℕ) → Patterns
references kept [] = g.no_more
references kept (n ∷ ns) = g.more (reference kept n) (references kept ns)

-- any number of texts and of such elements
abbrev pub with_texts : Patterns → Pattern
with_texts ps = g.choice (both (g.one_or_more (g.choice (g.more g.text ps))) g.empty)

abbrev mutual
  pub particle_pattern : List Declaration → Particle → Pattern
  particle_pattern kept (d.named n) = reference kept n
  particle_pattern kept (d.sequence ps) = g.group (particle_patterns kept ps)
  particle_pattern kept (d.choice ps) = g.choice (particle_patterns kept ps)
  particle_pattern kept (d.optional p) = g.choice (both (particle_pattern kept p) g.empty)
  particle_pattern kept (d.zero_or_more p) = g.choice (both (g.one_or_more (particle_pattern kept p)) g.empty)
  particle_pattern kept (d.one_or_more p) = g.one_or_more (particle_pattern kept p)

  pub particle_patterns : List Declaration → Particles → Patterns
  particle_patterns kept d.no_more = g.no_more
  particle_patterns kept (d.more p ps) = g.more (particle_pattern kept p) (particle_patterns kept ps)

abbrev pub mixed_pattern : List Declaration → List (List ℕ) → Pattern
mixed_pattern kept [] = g.text
mixed_pattern kept (n ∷ ns) = with_texts (references kept (n ∷ ns))

abbrev pub content_pattern : List Declaration → Content → Pattern
content_pattern kept nothing = g.empty
content_pattern kept anything = with_texts (references kept (map (λ x. x.name) kept))
content_pattern kept (mixed ns) = mixed_pattern kept ns
content_pattern kept (children p) = particle_pattern kept p

-- an element of this name without a namespace, and its content
abbrev pub element_pattern : List Declaration → Declaration → ElementPattern
element_pattern kept x = record { names = g.of_name (record { uri = []; local = x.name }); content = content_pattern kept x.content }

-- the grammar whose elements are these
abbrev pub grammar_with : List Declaration → List ℕ → Grammar
grammar_with kept root = record { start = reference kept root; elements = map (element_pattern kept) kept }

-- the grammar of a document type definition, with `root` as the document's element: that of the declared elements that are reached from it
pub record IsGrammarOfDtd (dtd : List Declaration) (root : List ℕ) (grammar : Grammar) : Type 0 where
  pub kept : List Declaration
  pub keeps_reached : Keeps dtd root dtd kept
  pub is_grammar : grammar ≡ grammar_with kept root
