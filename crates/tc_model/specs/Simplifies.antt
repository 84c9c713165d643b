-- The grammar of a schema that is written well: `Simplifies syntax grammar`, the simplification of the RELAX NG Specification (OASIS 2001), 4,
-- of which what tells elements and text is kept. That an attribute becomes `empty`, that `notAllowed` and `empty` stay where 4.20 and 4.21
-- would move them, and how element patterns are numbered are this project's choices.
use Rattle.std.specs.Prelude.{◌≡◌, ◌<◌, ℕ, ◌+◌, ◌==◌, List, [], ◌∷◌, Some, if◌then◌else◌}
use Rattle.std.specs.List.{AllByRecursion, Contains}
use Rattle.tc_model.specs.Grammars as g
use Rattle.tc_model.specs.Grammars.{NameClass, NameClasses, Pattern, Patterns, ElementPattern, Grammar}
use Rattle.tc_model.specs.CompactSyntaxTrees.{SyntaxClass, of_name, of_namespace, any_name, one_of, SyntaxClasses, no_class, class, SyntaxPattern, empty, not_allowed, text, attribute, ref, element, mixed, optional, zero_or_more, one_or_more, group, choice, interleave, SyntaxPatterns, no_more, more, Syntax}
use Rattle.tc_model.specs.SimplifiesParts.{pattern_of, Reached}
use Rattle.tc_model.specs.SimplifiesFaults.{IsFaultless}

-- an element of the text: the place of its word, its name class and its content
pub record Element : Type 0 where
  pub place : ℕ
  pub names : SyntaxClass
  pub content : SyntaxPattern

abbrev mutual
  -- the class without places
  pub name_class : SyntaxClass → NameClass
  name_class (of_name n) = g.of_name n
  name_class (of_namespace place uri except) = g.of_namespace uri (name_classes except)
  name_class (any_name place except) = g.any_name (name_classes except)
  name_class (one_of classes) = g.one_of (name_classes classes)

  pub name_classes : SyntaxClasses → NameClasses
  name_classes no_class = g.no_class
  name_classes (class c classes) = g.class (name_class c) (name_classes classes)

-- the number of the element at this place, from 1
abbrev pub number_at : List Element → ℕ → ℕ
number_at [] place = 0
number_at (e ∷ es) place = if e.place == place then 1 else number_at es place + 1

abbrev pub both : Pattern → Pattern → Patterns
both p q = g.more p (g.more q g.no_more)

-- What a pattern becomes, where these elements are numbered. A reference becomes what its definition does; an element becomes a reference
-- to its element pattern; an attribute may stand with any element, so it becomes `empty`.
mutual
  pub data Becomes (s : Syntax) (numbered : List Element) : SyntaxPattern → Pattern → Type 0 where
    an_empty : Becomes s numbered empty g.empty
    a_not_allowed : Becomes s numbered not_allowed g.not_allowed
    a_text : Becomes s numbered text g.text
    an_attribute : Becomes s numbered attribute g.empty
    a_reference : {n : List ℕ} {place : ℕ} {q : SyntaxPattern} {p : Pattern} → pattern_of s n ≡ Some q → Becomes s numbered q p → Becomes s numbered (ref n place) p
    an_element : {place : ℕ} {c : SyntaxClass} {q : SyntaxPattern} → Becomes s numbered (element place c q) (g.ref (number_at numbered place))
    a_mixed : {q : SyntaxPattern} {p : Pattern} → Becomes s numbered q p → Becomes s numbered (mixed q) (g.interleave (both g.text p))
    an_optional : {q : SyntaxPattern} {p : Pattern} → Becomes s numbered q p → Becomes s numbered (optional q) (g.choice (both p g.empty))
    a_zero_or_more : {q : SyntaxPattern} {p : Pattern} → Becomes s numbered q p → Becomes s numbered (zero_or_more q) (g.choice (both (g.one_or_more p) g.empty))
    a_one_or_more : {q : SyntaxPattern} {p : Pattern} → Becomes s numbered q p → Becomes s numbered (one_or_more q) (g.one_or_more p)
    a_group : {qs : SyntaxPatterns} {ps : Patterns} → AllBecome s numbered qs ps → Becomes s numbered (group qs) (g.group ps)
    a_choice : {qs : SyntaxPatterns} {ps : Patterns} → AllBecome s numbered qs ps → Becomes s numbered (choice qs) (g.choice ps)
    an_interleave : {qs : SyntaxPatterns} {ps : Patterns} → AllBecome s numbered qs ps → Becomes s numbered (interleave qs) (g.interleave ps)

  pub data AllBecome (s : Syntax) (numbered : List Element) : SyntaxPatterns → Patterns → Type 0 where
    none_left : AllBecome s numbered no_more g.no_more
    one_more : {q : SyntaxPattern} {qs : SyntaxPatterns} {p : Pattern} {ps : Patterns} → Becomes s numbered q p → AllBecome s numbered qs ps
        → AllBecome s numbered (more q qs) (g.more p ps)

-- elements become element patterns, one by one
pub data ElementsBecome (s : Syntax) (numbered : List Element) : List Element → List ElementPattern → Type 0 where
  no_element : ElementsBecome s numbered [] []
  next : {e : Element} {es : List Element} {p : Pattern} {ps : List ElementPattern} → Becomes s numbered e.content p → ElementsBecome s numbered es ps
      → ElementsBecome s numbered (e ∷ es) (record { names = name_class e.names; content = p } ∷ ps)

-- each stands before all that follow it
abbrev pub AreAscending : List Element → Type 0
AreAscending [] = Unit {0}
AreAscending (e ∷ es) = AllByRecursion (λ f. e.place < f.place) es × AreAscending es

-- The grammar for which a schema stands: the elements that are reached from `start`, in the order of their words, are its element patterns.
pub record IsGrammarOf (s : Syntax) (grammar : Grammar) : Type 0 where
  pub numbered : List Element
  pub start : SyntaxPattern
  pub ascending : AreAscending numbered
  pub reached : AllByRecursion (λ e. Reached s (element e.place e.names e.content)) numbered
  pub all : (place : ℕ) (c : SyntaxClass) (p : SyntaxPattern) → Reached s (element place c p) → Contains numbered (record { place = place; names = c; content = p })
  pub is_start : pattern_of s [] ≡ Some start
  pub start_becomes : Becomes s numbered start grammar.start
  pub elements_become : ElementsBecome s numbered numbered grammar.elements

-- a schema without a fault, and its grammar
pub record Simplifies (s : Syntax) (grammar : Grammar) : Type 0 where
  pub faultless : IsFaultless s
  pub is_grammar : IsGrammarOf s grammar
