-- What a run goes by: the stylesheet that its rules tell of, and the machine of path states.
use Rattle.std.specs.Prelude.{List, [], map}
use Rattle.std.specs.Borrow.{Bor}
use Rattle.tc_model.specs.Trees.{Trees}
use Rattle.tc_model.specs.Sheets.{Test, Sheet, CallFreeBody}
use Rattle.tc_model.specs.Machine.{Machine}
use Rattle.tc_model.specs.Symbols.{Mention}
use Rattle.tc_model.specs.Numberings.{predicates_of}
use Rattle.tc_rules.specs.Kept.{IsRulesOf, told}
use Rattle.tc_rules.specs.States.{AllInline, states}
use Rattle.tc_rules.specs.RulesView.{RulesView}
use Rattle.tc_run.specs.Lettered.{Lettered, bare, IsLettered}
use Rattle.tc_run.specs.Views.{trees}
use Rattle.tc_run.specs.declared.letters.Lettered.{Lettered as LetteredOf}
use Rattle.tc_run.specs.declared.runner.Runner.{Runner}

abbrev pub told_by : Runner → RulesView
told_by r = told r.rules.now

abbrev pub sheet_by : Runner → Sheet
sheet_by r = (told_by r).sheet

abbrev pub symbols_by : Runner → List Mention
symbols_by r = r.alphabet.now

abbrev pub predicates_by : Runner → List Test
predicates_by r = predicates_of (sheet_by r)

abbrev pub IsRunner : Runner → Type 0
IsRunner r = IsRulesOf (symbols_by r) r.rules.now

-- what is gone by, whichever elements have a number
pub record Guide : Type 0 where
  pub rules : RulesView
  pub symbols : List Mention

abbrev pub guide : Runner → Guide
guide r = record { rules = told_by r; symbols = symbols_by r }

abbrev pub looking_under : Guide → Machine
looking_under g = states g.symbols (predicates_of g.rules.sheet) [] []

-- the children that have numbers
abbrev pub kids_of : List (Bor (List LetteredOf)) → List Trees
kids_of ks = map (λ k. bare (trees k.now)) ks

abbrev pub numbered_by : Runner → List Trees
numbered_by r = kids_of r.numbered.now

-- trees with their letters, where these children have numbers
abbrev pub IsLetteredIn : Runner → List Trees → Lettered → Type 0
IsLetteredIn r numbered x = IsLettered (symbols_by r) (predicates_by r) numbered x

abbrev pub IsLetteredBy : Runner → Lettered → Type 0
IsLetteredBy r x = IsLetteredIn r (numbered_by r) x

-- the bodies of the rules, with calls in place
abbrev pub HasBodies : Runner → List CallFreeBody → Type 0
HasBodies r bodies = AllInline (sheet_by r).named (sheet_by r).rules bodies

-- the machine of path states, and that of looks alone
abbrev pub machine : Runner → List CallFreeBody → Machine
machine r bodies = states (symbols_by r) (predicates_by r) (sheet_by r).rules bodies

abbrev pub looking : Runner → Machine
looking r = states (symbols_by r) (predicates_by r) [] []
