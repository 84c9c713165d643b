-- Laws of the texts of paths, values, patterns, tests and priorities: each means one thing at most. Attributes alone are a select of nothing.
use Rattle.std.specs.Prelude.{◌≡◌, ℕ, ℤ, List}
use Rattle.tc_model.specs.RawTrees.{Bound}
use Rattle.tc_model.specs.Sheets.{Path, no_alternative, Test, Body}
use Rattle.tc_model.specs.PathTextPhrases.{Alternative}
use Rattle.tc_model.specs.PathText.{SelectText, AttributesText, ValueText, PatternText, TestText}
use Rattle.tc_model.specs.PathTextPriority.{PriorityText}

abbrev pub HasOneSelect : Type 0
HasOneSelect = (scope : List Bound) (text : List ℕ) (p q : Path) → SelectText scope text p → SelectText scope text q → p ≡ q

abbrev pub AttributesAreNothing : Type 0
AttributesAreNothing = (scope : List Bound) (text : List ℕ) → AttributesText scope text → SelectText scope text no_alternative

abbrev pub HasOneValue : Type 0
HasOneValue = (scope : List Bound) (text : List ℕ) (a b : Body) → ValueText scope text a → ValueText scope text b → a ≡ b

abbrev pub HasOnePattern : Type 0
HasOnePattern = (scope : List Bound) (text : List ℕ) (a b : List Alternative) → PatternText scope text a → PatternText scope text b → a ≡ b

abbrev pub HasOneTest : Type 0
HasOneTest = (scope : List Bound) (text : List ℕ) (t u : Test) → TestText scope text t → TestText scope text u → t ≡ u

abbrev pub HasOnePriority : Type 0
HasOnePriority = (text : List ℕ) (x y : ℤ) → PriorityText text x → PriorityText text y → x ≡ y
