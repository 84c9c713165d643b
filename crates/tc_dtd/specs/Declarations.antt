-- What a document type definition declares of elements (XML 1.0, Fifth Edition, 3.2, whose numbers are meant by "XML").
use Rattle.std.specs.Prelude.{ℕ, List, [], ◌∷◌, ◌++◌, map, ◌≢◌, bytes_eq, Option, None, Some, if◌then◌else◌}
use Rattle.std.specs.List.{IsDistinct, AllByRecursion}
use Rattle.tc_model.specs.Names.{IsNcName}

mutual
  -- a content particle: a name, or particles in parentheses, perhaps with a suffix (XML, 3.2.1, [47] to [50])
  pub data Particle : Type 0 where
    named : List ℕ → Particle
    sequence choice : Particles → Particle
    optional zero_or_more one_or_more : Particle → Particle

  pub data Particles : Type 0 where
    no_more : Particles
    more : Particle → Particles → Particles

-- a content (XML, 3.2, [46])
pub data Content : Type 0 where
  nothing anything : Content
  -- texts, and elements of these names (XML, 3.2.2, [51])
  mixed : List (List ℕ) → Content
  children : Particle → Content

-- what is declared of an element (XML, 3.2, [45])
pub record Declaration : Type 0 where
  pub name : List ℕ
  pub content : Content

-- what is declared of the element with this name
abbrev pub declared : List Declaration → List ℕ → Option Content
declared [] n = None
declared (d ∷ ds) n = if bytes_eq d.name n then Some d.content else declared ds n

abbrev mutual
  -- the names in a particle, in the order of the text
  pub names_in : Particle → List (List ℕ)
  names_in (named n) = n ∷ []
  names_in (sequence ps) = names_in_all ps
  names_in (choice ps) = names_in_all ps
  names_in (optional p) = names_in p
  names_in (zero_or_more p) = names_in p
  names_in (one_or_more p) = names_in p

  pub names_in_all : Particles → List (List ℕ)
  names_in_all no_more = []
  names_in_all (more p ps) = names_in p ++ names_in_all ps

abbrev mutual
  -- in no parentheses there is nothing
  pub IsParticle : Particle → Type 0
  IsParticle (named n) = Unit {0}
  IsParticle (sequence ps) = (ps ≢ no_more) × AreParticles ps
  IsParticle (choice ps) = (ps ≢ no_more) × AreParticles ps
  IsParticle (optional p) = IsParticle p
  IsParticle (zero_or_more p) = IsParticle p
  IsParticle (one_or_more p) = IsParticle p

  pub AreParticles : Particles → Type 0
  AreParticles no_more = Unit {0}
  AreParticles (more p ps) = IsParticle p × AreParticles ps

abbrev pub IsContent : Content → Type 0
IsContent nothing = Unit {0}
IsContent anything = Unit {0}
IsContent (mixed ns) = Unit {0}
IsContent (children p) = IsParticle p

-- lawful names, each declared once (XML, 3.2, Unique Element Type Declaration)
pub record AreDeclarations (ds : List Declaration) : Type 0 where
  pub names : AllByRecursion (λ d. IsNcName d.name) ds
  pub contents : AllByRecursion (λ d. IsContent d.content) ds
  pub once : IsDistinct bytes_eq (map (λ d. d.name) ds)
