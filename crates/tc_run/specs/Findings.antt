-- Whether looks find something below numbered elements.
use Rattle.std.specs.Prelude.{◌≡◌, ℕ, List, All, Bool, Option, Some, is_some, slice_get, IfSome}
use Rattle.tc_model.specs.Machine.{first_hit}
use Rattle.tc_model.specs.Trees.{Trees}
use Rattle.tc_rules.specs.States.{Looking}
use Rattle.tc_rules.specs.Tasks.{IsLookAt}
use Rattle.tc_run.specs.Running.{Guide, looking_under, numbered_by}
use Rattle.tc_run.specs.declared.findings.Finding.{Finding}
use Rattle.tc_run.specs.declared.findings.Findings.{Findings}
use Rattle.tc_run.specs.declared.runner.Runner.{Runner}

module _ (g : Guide) (numbered : List Trees) where
  -- whether something is found among the children that have this number
  pub record IsFindingUnder (number state_of_look : ℕ) (found : Bool) : Type 0 where
    pub kids : Trees
    pub numbered_is : slice_get numbered number ≡ Some kids
    pub found_is : (s : Looking) → IsLookAt g.rules state_of_look s → found ≡ is_some (first_hit (looking_under g) kids s)

  -- what is remembered is right
  abbrev pub IsFound : Finding → Type 0
  IsFound k = IsFindingUnder k.number k.look k.found

  pub record AreFoundUnder (k : Findings) : Type 0 where
    pub found : All (λ o. IfSome o IsFound) k.places.items

-- the number of an element of these children, if it has one
abbrev pub IsNumberOf : Runner → Option ℕ → Trees → Type 0
IsNumberOf r number kids = IfSome number (λ k. slice_get (numbered_by r) k ≡ Some kids)
