-- When a document is valid for declarations of elements (XML 1.0, Fifth Edition, 3, Element Valid; 3.2).
use Rattle.std.specs.Prelude.{◌≡◌, ℕ, List, [], ◌∷◌, ◌++◌, Some}
use Rattle.std.specs.List.{Contains}
use Rattle.tc_model.specs.Names.{ExpandedName}
use Rattle.tc_model.specs.Trees.{Trees, none, text, element, IsDocument}
use Rattle.tc_dtd.specs.Declarations as d
use Rattle.tc_dtd.specs.Declarations.{Particle, Particles, Content, nothing, anything, mixed, children, Declaration, declared}

-- The names that a particle allows, in this order (XML, 3.2.1).
mutual
  pub data Allows : Particle → List (List ℕ) → Type 0 where
    a_name : {n : List ℕ} → Allows (d.named n) (n ∷ [])
    a_sequence : {ps : Particles} {ns : List (List ℕ)} → AllowsAll ps ns → Allows (d.sequence ps) ns
    a_choice : {ps : Particles} {ns : List (List ℕ)} → AllowsOne ps ns → Allows (d.choice ps) ns
    an_option : {p : Particle} {ns : List (List ℕ)} → Allows p ns → Allows (d.optional p) ns
    no_option : {p : Particle} → Allows (d.optional p) []
    some : {p : Particle} {ns : List (List ℕ)} → AllowsRepeated p ns → Allows (d.zero_or_more p) ns
    at_least_one : {p : Particle} {ls ms ns : List (List ℕ)} → ns ≡ ls ++ ms → Allows p ls → AllowsRepeated p ms → Allows (d.one_or_more p) ns

  -- parts one after the other, one for each particle
  pub data AllowsAll : Particles → List (List ℕ) → Type 0 where
    all_end : AllowsAll d.no_more []
    all_more : {p : Particle} {ps : Particles} {ls ms ns : List (List ℕ)} → ns ≡ ls ++ ms → Allows p ls → AllowsAll ps ms → AllowsAll (d.more p ps) ns

  -- one of the particles allows them
  pub data AllowsOne : Particles → List (List ℕ) → Type 0 where
    here : {p : Particle} {ps : Particles} {ns : List (List ℕ)} → Allows p ns → AllowsOne (d.more p ps) ns
    there : {p : Particle} {ps : Particles} {ns : List (List ℕ)} → AllowsOne ps ns → AllowsOne (d.more p ps) ns

  -- parts one after the other, any number of them
  pub data AllowsRepeated : Particle → List (List ℕ) → Type 0 where
    no_part : {p : Particle} → AllowsRepeated p []
    one_part : {p : Particle} {ls ms ns : List (List ℕ)} → ns ≡ ls ++ ms → Allows p ls → AllowsRepeated p ms → AllowsRepeated p ns

-- elements alone, whose names are these
abbrev pub AreElements : Trees → List (List ℕ) → Type 0
AreElements none ns = ns ≡ []
AreElements (text s rest) ns = ⊥
AreElements (element n kids rest) ns = (ms : List (List ℕ)) × (ns ≡ n.local ∷ ms) × AreElements rest ms

-- texts, and elements with names among these
abbrev pub AreAmong : List (List ℕ) → Trees → Type 0
AreAmong ns none = Unit {0}
AreAmong ns (text s rest) = AreAmong ns rest
AreAmong ns (element n kids rest) = Contains ns n.local × AreAmong ns rest

-- the children that a content allows (XML, 3, Element Valid, 1 to 4)
abbrev pub AllowsChildren : Content → Trees → Type 0
AllowsChildren nothing kids = kids ≡ none
AllowsChildren anything kids = Unit {0}
AllowsChildren (mixed ns) kids = AreAmong ns kids
AllowsChildren (children p) kids = (ns : List (List ℕ)) × AreElements kids ns × Allows p ns

-- an element without a namespace that is declared, with children that its content allows
abbrev pub IsAsDeclared : List Declaration → ExpandedName → Trees → Type 0
IsAsDeclared dtd n kids = (n.uri ≡ []) × ((c : Content) × (declared dtd n.local ≡ Some c) × AllowsChildren c kids)

-- so is every element in these trees, at any depth
abbrev pub AreAsDeclared : List Declaration → Trees → Type 0
AreAsDeclared dtd none = Unit {0}
AreAsDeclared dtd (text s rest) = AreAsDeclared dtd rest
AreAsDeclared dtd (element n kids rest) = IsAsDeclared dtd n kids × AreAsDeclared dtd kids × AreAsDeclared dtd rest

-- the element that stands first is named so (XML, 2.8, Root Element Type)
abbrev pub IsRootNamed : List ℕ → Trees → Type 0
IsRootNamed root none = ⊥
IsRootNamed root (text s rest) = ⊥
IsRootNamed root (element n kids rest) = n.local ≡ root

-- a document whose element is named `root`, and in which every element is as it is declared
pub record IsDtdValid (dtd : List Declaration) (root : List ℕ) (document : Trees) : Type 0 where
  pub is_document : IsDocument document
  pub named : IsRootNamed root document
  pub elements : AreAsDeclared dtd document
