-- What contents become, where names are numbered by their places in a list.
use Rattle.std.specs.Prelude.{ℕ, ◌+◌, List, [], ◌∷◌, None, Some}
use Rattle.tc_model.specs.Grammars as g
use Rattle.tc_model.specs.Grammars.{Pattern, Patterns, ElementPattern}
use Rattle.tc_model.specs.Simplifies.{both}
use Rattle.tc_dtd.specs.Declarations as d
use Rattle.tc_dtd.specs.Declarations.{Particle, Particles, Content, nothing, anything, mixed, children, Declaration}
use Rattle.tc_dtd.specs.DtdGrammar as grammar
use Rattle.tc_dtd.specs.Numbers.{number_in}

abbrev pub reference : List (List ℕ) → List ℕ → Pattern
reference ns n = elim (number_in ns n) [ Some k ↦ g.ref (k + 1) | None ↦ g.not_allowed ]

abbrev pub references : List (List ℕ) → List (List ℕ) → Patterns
references ns [] = g.no_more
references ns (m ∷ ms) = g.more (reference ns m) (references ns ms)

abbrev pub with_texts : Patterns → Pattern
with_texts ps = grammar.with_texts ps

abbrev mutual
  pub particle_pattern : List (List ℕ) → Particle → Pattern
  particle_pattern ns (d.named n) = reference ns n
  particle_pattern ns (d.sequence ps) = g.group (particle_patterns ns ps)
  particle_pattern ns (d.choice ps) = g.choice (particle_patterns ns ps)
  particle_pattern ns (d.optional p) = g.choice (both (particle_pattern ns p) g.empty)
  particle_pattern ns (d.zero_or_more p) = g.choice (both (g.one_or_more (particle_pattern ns p)) g.empty)
  particle_pattern ns (d.one_or_more p) = g.one_or_more (particle_pattern ns p)

  pub particle_patterns : List (List ℕ) → Particles → Patterns
  particle_patterns ns d.no_more = g.no_more
  particle_patterns ns (d.more p ps) = g.more (particle_pattern ns p) (particle_patterns ns ps)

abbrev pub content_pattern : List (List ℕ) → Content → Pattern
content_pattern ns nothing = g.empty
content_pattern ns anything = with_texts (references ns ns)
content_pattern ns (mixed []) = g.text
content_pattern ns (mixed (m ∷ ms)) = with_texts (references ns (m ∷ ms))
content_pattern ns (children p) = particle_pattern ns p

abbrev pub element_pattern : List (List ℕ) → Declaration → ElementPattern
element_pattern ns x = record { names = g.of_name (record { uri = []; local = x.name }); content = content_pattern ns x.content }
