-- Letters: what path states see of a tree. They see the symbol of an element, or that it is a text, and which predicates hold there.
-- Marks are a number, so that a letter is two numbers, by which tables are looked up, letters come in the
-- order of numbers, and that they are few is one inequality. The tree that stands for a kind and the kind of
-- a tree need the symbols alone; they stand here, with predicates that aren't looked at, since whoever cites
-- one cites the others.
use Rattle.std.specs.Prelude.{◌≡◌, ℕ, ◌+◌, ◌*◌, ◌<◌, ◌^◌, ◌==◌, List, [], ◌∷◌, length, map, Bool, true, ◌&&◌, if◌then◌else◌, codes}
use Rattle.std.specs.Int.{bit_at}
use Rattle.tc_model.specs.Trees.{none}
use Rattle.tc_model.specs.Chains.{Tree, an_element, a_text, top, under}
use Rattle.tc_model.specs.Sheets.{NodeTest, Test, always}
use Rattle.tc_model.specs.Paths.{passes, holds}
use Rattle.tc_model.specs.Symbols.{Mention, symbol_of, symbol_count, fresh_name}
use Rattle.tc_model.specs.SameTests.{same_test}
use Rattle.tc_model.specs.Numbered.{number_of}

pub data Kind : Type 0 where
  of_symbol : ℕ → Kind
  of_text : Kind

-- the marks are a set of predicates as a number, to which the predicate of number i adds 2 to the power i
pub record Letter : Type 0 where
  pub kind : Kind
  pub marks : ℕ

abbrev pub mark_at : ℕ → ℕ → Bool
mark_at marks i = bit_at marks i == 1

-- the set of those for which it is true
abbrev pub marks_of : List Bool → ℕ
marks_of [] = 0
marks_of (b ∷ bs) = (if b then 1 else 0) + 2 * marks_of bs

-- the symbols of two schemas and a stylesheet, and the predicates of the stylesheet
module _ (symbols : List Mention) (predicates : List Test) where
  -- a tree of this kind
  abbrev pub tree_of : Kind → Tree
  tree_of (of_symbol k) = an_element (fresh_name symbols k) none
  tree_of of_text = a_text (codes "t")

  abbrev pub kind_of : Tree → Kind
  kind_of (an_element n kids) = of_symbol (symbol_of symbols n)
  kind_of (a_text s) = of_text

  -- the letter of a tree: whether a predicate holds on it depends on nothing above it
  abbrev pub letter_of : Tree → Letter
  letter_of t = record { kind = kind_of t; marks = marks_of (map (λ p. holds p (under (top none) t)) predicates) }

  -- a predicate is among the marks, or says nothing
  abbrev pub is_marked : Test → ℕ → Bool
  is_marked always marks = true
  is_marked p marks = mark_at marks (number_of same_test p predicates)

  -- a step fits a letter: its node test fits the kind, and its predicates are among the marks
  abbrev pub fits_letter : NodeTest → Test → Letter → Bool
  fits_letter test when l = passes test (tree_of l.kind) && is_marked when l.marks

  -- all sets of predicates are letters' marks, contradictory ones too
  pub record IsLetter (l : Letter) : Type 0 where
    pub symbol : (k : ℕ) → l.kind ≡ of_symbol k → k < symbol_count symbols
    pub marks : l.marks < 2 ^ length predicates
