-- Paths of which states tell what they select: their predicates have numbers, and their node tests can't tell the names of one symbol apart.
use Rattle.std.specs.Prelude.{◌≡◌, List, Some, slice_get}
use Rattle.tc_model.specs.Chains.{Tree}
use Rattle.tc_model.specs.Sheets.{NodeTest, Steps, no_step, step, Path, no_alternative, alternative, Test, always}
use Rattle.tc_model.specs.Paths.{passes}
use Rattle.tc_model.specs.Symbols.{Mention}
use Rattle.tc_model.specs.Numbered.{number_of}
use Rattle.tc_model.specs.SameTests.{same_test}
use Rattle.tc_model.specs.Letters.{tree_of, kind_of}

module _ (symbols : List Mention) (predicates : List Test) where
  -- a predicate has a number, or says nothing
  abbrev pub IsNumbered : Test → Type 0
  IsNumbered always = Unit {0}
  IsNumbered w = slice_get predicates (number_of same_test w predicates) ≡ Some w

  -- a node test can't tell the names of one symbol apart
  abbrev pub IsBlind : NodeTest → Type 0
  IsBlind t = (u : Tree) → passes t (tree_of symbols predicates (kind_of symbols predicates u)) ≡ passes t u

  abbrev pub AreCovered : Steps → Type 0
  AreCovered no_step = Unit {0}
  AreCovered (step deep t when ss) = IsBlind t × IsNumbered when × AreCovered ss

  abbrev pub IsCovered : Path → Type 0
  IsCovered no_alternative = Unit {0}
  IsCovered (alternative ss p) = AreCovered ss × IsCovered p
