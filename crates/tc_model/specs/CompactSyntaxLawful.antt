-- Which syntax trees are lawful: what names, namespace names and places they have, and how many members their lists.
use Rattle.std.specs.Prelude.{◌≢◌, ◌≤◌, ◌+◌, ℕ, List, [], ◌∷◌, ◌++◌}
use Rattle.std.specs.List.{AllByRecursion}
use Rattle.tc_model.specs.Names.{IsName, IsNamespaceName, IsNcName}
use Rattle.tc_model.specs.CompactSyntaxTrees.{SyntaxClass, of_name, of_namespace, any_name, one_of, SyntaxClasses, no_class, class, SyntaxPattern, ref, element, mixed, optional, zero_or_more, one_or_more, group, choice, interleave, SyntaxPatterns, no_more, more, Definition, Syntax}

abbrev mutual
  -- names are lawful, places are at most this number, and no choice is empty
  pub IsLawfulClass : ℕ → SyntaxClass → Type 0
  IsLawfulClass most (of_name n) = IsName n
  IsLawfulClass most (of_namespace place uri except) = (place ≤ most) × IsNamespaceName uri × AreLawfulClasses most except
  IsLawfulClass most (any_name place except) = (place ≤ most) × AreLawfulClasses most except
  IsLawfulClass most (one_of classes) = (classes ≢ no_class) × AreLawfulClasses most classes

  pub AreLawfulClasses : ℕ → SyntaxClasses → Type 0
  AreLawfulClasses most no_class = Unit {0}
  AreLawfulClasses most (class c classes) = IsLawfulClass most c × AreLawfulClasses most classes

abbrev mutual
  -- names are lawful in all name classes, places are at most this number, and no list is empty
  pub IsLawfulPattern : ℕ → SyntaxPattern → Type 0
  IsLawfulPattern most (ref n place) = (place ≤ most) × IsNcName n
  IsLawfulPattern most (element place c p) = (place ≤ most) × IsLawfulClass most c × IsLawfulPattern most p
  IsLawfulPattern most (mixed p) = IsLawfulPattern most p
  IsLawfulPattern most (optional p) = IsLawfulPattern most p
  IsLawfulPattern most (zero_or_more p) = IsLawfulPattern most p
  IsLawfulPattern most (one_or_more p) = IsLawfulPattern most p
  IsLawfulPattern most (group ps) = (ps ≢ no_more) × AreLawfulPatterns most ps
  IsLawfulPattern most (choice ps) = (ps ≢ no_more) × AreLawfulPatterns most ps
  IsLawfulPattern most (interleave ps) = (ps ≢ no_more) × AreLawfulPatterns most ps
  IsLawfulPattern most _ = Unit {0}

  pub AreLawfulPatterns : ℕ → SyntaxPatterns → Type 0
  AreLawfulPatterns most no_more = Unit {0}
  AreLawfulPatterns most (more p ps) = IsLawfulPattern most p × AreLawfulPatterns most ps

abbrev mutual
  -- the places of the words `element` in a pattern, as they stand
  pub places_in : SyntaxPattern → List ℕ
  places_in (element place c p) = place ∷ places_in p
  places_in (mixed p) = places_in p
  places_in (optional p) = places_in p
  places_in (zero_or_more p) = places_in p
  places_in (one_or_more p) = places_in p
  places_in (group ps) = places_in_all ps
  places_in (choice ps) = places_in_all ps
  places_in (interleave ps) = places_in_all ps
  places_in _ = []

  pub places_in_all : SyntaxPatterns → List ℕ
  places_in_all no_more = []
  places_in_all (more p ps) = places_in p ++ places_in_all ps

abbrev pub places_of : List Definition → List ℕ
places_of [] = []
places_of (d ∷ ds) = places_in d.body ++ places_of ds

-- each is at least this number, and greater than the one before
abbrev pub AscendFrom : ℕ → List ℕ → Type 0
AscendFrom least [] = Unit {0}
AscendFrom least (n ∷ ns) = (least ≤ n) × AscendFrom (n + 1) ns

-- no place is after the text's end, and the words `element` stand one after the other
pub record IsLawfulSyntax (s : Syntax) : Type 0 where
  pub definitions : AllByRecursion (λ d. (d.place ≤ s.end) × IsLawfulPattern s.end d.body) s.definitions
  pub in_order : AscendFrom 0 (places_of s.definitions)
