-- The string-values of nodes that looks select.
use Rattle.std.specs.Prelude.{ℕ, List, [], Option, None, Some}
use Rattle.tc_model.specs.Chains.{joined_texts}
use Rattle.tc_run.specs.Lettered.{bare}
use Rattle.tc_run.specs.Views.{trees}
use Rattle.tc_run.specs.declared.looks.Hit.{Hit}
use Rattle.tc_run.specs.declared.looks.Hit.TheVariants as hits

abbrev pub string_of : Hit → List ℕ
string_of (hits.Text s) = s.now
string_of (hits.Elem kids) = joined_texts (bare (trees kids.now))

-- of none it is empty
abbrev pub value_of : Option Hit → List ℕ
value_of None = []
value_of (Some x) = string_of x
