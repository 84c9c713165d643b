-- Schemas: name classes, patterns and element patterns (RELAX NG Specification, OASIS 2001, 5 and 6, whose numbers are meant by "RELAX NG").
-- In a well-formed schema a choice of name classes isn't empty, like a choice of patterns.
use Rattle.std.specs.Prelude.{◌≢◌, ℕ, zero, suc, ◌≤◌, List, length, Bool, true, false, ◌&&◌, ◌||◌, not, IsTrue, bytes_eq, Option, None, slice_get, All}
use Rattle.std.specs.List.{list_any}
use Rattle.tc_model.specs.Names.{ExpandedName, same_name, IsName, IsNamespaceName}

mutual
  pub data NameClass : Type 0 where
    of_name : ExpandedName → NameClass
    -- the names of a namespace, except those of the excepted classes
    of_namespace : List ℕ → NameClasses → NameClass
    -- all names, except those of the excepted classes
    any_name : NameClasses → NameClass
    one_of : NameClasses → NameClass

  pub data NameClasses : Type 0 where
    no_class : NameClasses
    class : NameClass → NameClasses → NameClasses

abbrev mutual
  -- whether a name class contains a name (RELAX NG, 6.1)
  pub in_class : NameClass → ExpandedName → Bool
  in_class (of_name m) n = same_name m n
  in_class (of_namespace uri except) n = bytes_eq uri n.uri && not (in_some_class except n)
  in_class (any_name except) n = not (in_some_class except n)
  in_class (one_of classes) n = in_some_class classes n

  pub in_some_class : NameClasses → ExpandedName → Bool
  in_some_class no_class n = false
  in_some_class (class c classes) n = in_class c n || in_some_class classes n

abbrev pub InClass : NameClass → ExpandedName → Type 0
InClass c n = IsTrue (in_class c n)

mutual
  pub data Pattern : Type 0 where
    empty not_allowed text : Pattern
    -- an element pattern by its number, from 1
    ref : ℕ → Pattern
    group choice interleave : Patterns → Pattern
    one_or_more : Pattern → Pattern

  pub data Patterns : Type 0 where
    no_more : Patterns
    more : Pattern → Patterns → Patterns

pub record ElementPattern : Type 0 where
  pub names : NameClass
  pub content : Pattern

pub record Grammar : Type 0 where
  pub start : Pattern
  pub elements : List ElementPattern

-- the element pattern of a number
abbrev pub element_at : List ElementPattern → ℕ → Option ElementPattern
element_at elements zero = None
element_at elements (suc k) = slice_get elements k

abbrev mutual
  -- whether `text` is written in a pattern, also where nothing can match it there, as beside `notAllowed`
  pub has_text : Pattern → Bool
  has_text empty = false
  has_text not_allowed = false
  has_text text = true
  has_text (ref k) = false
  has_text (group ps) = have_text ps
  has_text (choice ps) = have_text ps
  has_text (interleave ps) = have_text ps
  has_text (one_or_more p) = has_text p

  pub have_text : Patterns → Bool
  have_text no_more = false
  have_text (more p ps) = has_text p || have_text ps

-- whether `text` is written in the content of some element pattern
abbrev pub some_content_has_text : List ElementPattern → Bool
some_content_has_text elements = list_any (λ e. has_text e.content) elements

abbrev mutual
  -- its names are lawful, and no choice is empty
  pub IsNameClass : NameClass → Type 0
  IsNameClass (of_name n) = IsName n
  IsNameClass (of_namespace uri except) = IsNamespaceName uri × AreNameClasses except
  IsNameClass (any_name except) = AreNameClasses except
  IsNameClass (one_of classes) = (classes ≢ no_class) × AreNameClasses classes

  pub AreNameClasses : NameClasses → Type 0
  AreNameClasses no_class = Unit {0}
  AreNameClasses (class c classes) = IsNameClass c × AreNameClasses classes

abbrev mutual
  -- no list is empty, and each reference is to one of so many element patterns
  pub IsPattern : ℕ → Pattern → Type 0
  IsPattern count empty = Unit {0}
  IsPattern count not_allowed = Unit {0}
  IsPattern count text = Unit {0}
  IsPattern count (ref k) = (1 ≤ k) × (k ≤ count)
  IsPattern count (group ps) = (ps ≢ no_more) × ArePatterns count ps
  IsPattern count (choice ps) = (ps ≢ no_more) × ArePatterns count ps
  IsPattern count (interleave ps) = (ps ≢ no_more) × ArePatterns count ps
  IsPattern count (one_or_more p) = IsPattern count p

  pub ArePatterns : ℕ → Patterns → Type 0
  ArePatterns count no_more = Unit {0}
  ArePatterns count (more p ps) = IsPattern count p × ArePatterns count ps

-- a lawful name class, and a content
abbrev pub IsElementPattern : ℕ → ElementPattern → Type 0
IsElementPattern count e = IsNameClass e.names × IsPattern count e.content

-- a well-formed schema
abbrev pub IsGrammar : Grammar → Type 0
IsGrammar g = IsPattern (length g.elements) g.start × All (IsElementPattern (length g.elements)) g.elements
