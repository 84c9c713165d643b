-- When trees match a pattern (RELAX NG Specification, OASIS 2001, 6.2, for elements and text). There is no case for `notAllowed`: nothing matches it.
use Rattle.std.specs.Prelude.{◌≡◌, ℕ, List, Some}
use Rattle.tc_model.specs.Names.{ExpandedName}
use Rattle.tc_model.specs.Trees.{Trees, none, text, element, beside}
use Rattle.tc_model.specs.Grammars as p
use Rattle.tc_model.specs.Grammars.{Pattern, Patterns, ElementPattern, no_more, more, element_at, InClass}

-- every item is a text
abbrev pub AreTexts : Trees → Type 0
AreTexts none = Unit {0}
AreTexts (text s rest) = AreTexts rest
AreTexts (element n kids rest) = ⊥

-- l is made of the items of h and those of k, each in its order (RELAX NG, 6.2.6)
pub data Shuffle : Trees → Trees → Trees → Type 0 where
  both_end : Shuffle none none none
  left_text : {s : List ℕ} {h k l : Trees} → Shuffle h k l → Shuffle (text s h) k (text s l)
  left_element : {n : ExpandedName} {c h k l : Trees} → Shuffle h k l → Shuffle (element n c h) k (element n c l)
  right_text : {s : List ℕ} {h k l : Trees} → Shuffle h k l → Shuffle h (text s k) (text s l)
  right_element : {n : ExpandedName} {c h k l : Trees} → Shuffle h k l → Shuffle h (element n c k) (element n c l)

mutual
  pub data Matches (g : List ElementPattern) : Trees → Pattern → Type 0 where
    -- 6.2.1
    m_choice : {h : Trees} {ps : Patterns} → OneOf g h ps → Matches g h (p.choice ps)
    -- 6.2.2
    m_group : {h : Trees} {ps : Patterns} → InOrder g h ps → Matches g h (p.group ps)
    -- 6.2.3
    m_empty : Matches g none p.empty
    -- 6.2.4
    m_text : {h : Trees} → AreTexts h → Matches g h p.text
    -- 6.2.5
    m_one_or_more : {h : Trees} {q : Pattern} → Repeated g h q → Matches g h (p.one_or_more q)
    -- 6.2.6
    m_interleave : {h : Trees} {ps : Patterns} → Shuffled g h ps → Matches g h (p.interleave ps)
    -- 6.2.7: one element, whose name is in the class and whose children match the content
    m_ref : {k : ℕ} {n : ExpandedName} {c : Trees} (e : ElementPattern) → element_at g k ≡ Some e → InClass e.names n → Matches g c e.content → Matches g (element n c none) (p.ref k)

  -- parts one after the other, one for each pattern
  pub data InOrder (g : List ElementPattern) : Trees → Patterns → Type 0 where
    order_end : InOrder g none no_more
    order_more : {h k l : Trees} {q : Pattern} {qs : Patterns} → l ≡ beside h k → Matches g h q → InOrder g k qs → InOrder g l (more q qs)

  -- one of the patterns is matched
  pub data OneOf (g : List ElementPattern) : Trees → Patterns → Type 0 where
    here : {h : Trees} {q : Pattern} {qs : Patterns} → Matches g h q → OneOf g h (more q qs)
    there : {h : Trees} {q : Pattern} {qs : Patterns} → OneOf g h qs → OneOf g h (more q qs)

  -- each item given to one pattern, so that each pattern is matched by what it was given, in order
  pub data Shuffled (g : List ElementPattern) : Trees → Patterns → Type 0 where
    shuffled_end : Shuffled g none no_more
    shuffled_more : {h k l : Trees} {q : Pattern} {qs : Patterns} → Shuffle h k l → Matches g h q → Shuffled g k qs → Shuffled g l (more q qs)

  -- one or more parts one after the other
  pub data Repeated (g : List ElementPattern) : Trees → Pattern → Type 0 where
    once : {h : Trees} {q : Pattern} → Matches g h q → Repeated g h q
    again : {h k l : Trees} {q : Pattern} → l ≡ beside h k → Matches g h q → Repeated g k q → Repeated g l q
