-- What predicates ask for.
use Rattle.std.specs.Prelude.{◌≡◌, ◌<◌, ℕ, List, length, get_or, Some, slice_get}
use Rattle.tc_model.specs.Numberings.{predicates_of}
use Rattle.tc_model.specs.Sheets.{Path, Test, has}
use Rattle.tc_model.specs.Views.{test}
use Rattle.tc_rules.specs.Parts.{IsPartTest}
use Rattle.tc_rules.specs.Tasks.{IsLookAt, looking_from}
use Rattle.tc_run.specs.Running.{Guide, guide, predicates_by}
use Rattle.tc_run.specs.declared.predicates.Asked.{Asked}
use Rattle.tc_run.specs.declared.predicates.Asked.TheVariants as asked
use Rattle.tc_run.specs.declared.runner.Runner.{Runner}

-- whether a look selects something, or a test
abbrev pub IsAskedUnder : Guide → Test → Asked → Type 0
IsAskedUnder g t (asked.Look k) = (p : Path) × (t ≡ has p) × IsLookAt g.rules k (looking_from p)
IsAskedUnder g t (asked.Test w) = (t ≡ test w.now) × IsPartTest g.rules.sheet t

abbrev pub IsAskedBy : Runner → Test → Asked → Type 0
IsAskedBy r t x = IsAskedUnder (guide r) t x

-- the first so many predicates ask for these, in their order
pub record AreAskedUnder (g : Guide) (count : ℕ) (xs : List Asked) : Type 0 where
  pub count_is : length xs ≡ count
  pub each : (i : ℕ) (d : Asked) (t : Test) → i < count → slice_get (predicates_of g.rules.sheet) i ≡ Some t → IsAskedUnder g t (get_or xs i d)

abbrev pub AreAsked : Runner → ℕ → List Asked → Type 0
AreAsked r count xs = AreAskedUnder (guide r) count xs

abbrev pub AreAllAsked : Runner → List Asked → Type 0
AreAllAsked r xs = AreAsked r (length (predicates_by r)) xs
