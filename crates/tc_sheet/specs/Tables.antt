-- Tables of names, each of which is kept once, and why names of templates are no such table.
use Rattle.std.specs.Prelude.{◌≡◌, ℕ, List, ◌∷◌, ◌++◌, Some, true}
use Rattle.std.specs.List.{IsDistinct, list_any}
use Rattle.tc_model.specs.Names.{ExpandedName, same_name}
use Rattle.tc_model.specs.Numbered.{each_once_after}
use Rattle.tc_model.specs.Views.{place}
use Rattle.tc_model.specs.SheetTextTrees.{Template}
use Rattle.tc_model.specs.SheetText.{names_of, one_name, modes_in_body}
use Rattle.tc_sheet.specs.declared.faults.SheetFault.{SheetFault}
use Rattle.tc_sheet.specs.declared.faults.SheetFault.TheVariants.{Malformed, Unsupported, TooDeep, Undefined, CallLoop, NoMemory}

-- names put behind others, each unless it is there already
abbrev pub puts : List ExpandedName → List ExpandedName → List ExpandedName
puts seen names = seen ++ each_once_after same_name seen names

-- the modes of a template, its own and those of its body
abbrev pub modes_in : Template → List ExpandedName
modes_in t = one_name t.mode ++ modes_in_body t.body

-- the template at this place has a name that is among these; or memory was refused
abbrev pub IsAgain : List ExpandedName → Template → SheetFault → Type 0
IsAgain names t (Malformed p) = (t.place ≡ place p) × ((n : ExpandedName) × (t.name ≡ Some n) × (list_any (same_name n) names ≡ true))
IsAgain names t (Unsupported p why) = ⊥
IsAgain names t (TooDeep p) = ⊥
IsAgain names t (Undefined p) = ⊥
IsAgain names t (CallLoop p) = ⊥
IsAgain names t NoMemory = Unit {0}

-- the template at this place is the first whose name one before it has
pub record IsNamedAgain (ts : List Template) (p : ℕ) : Type 0 where
  pub before : List Template
  pub template : Template
  pub after : List Template
  pub parts : ts ≡ before ++ (template ∷ after)
  pub once : IsDistinct same_name (names_of before)
  pub name : ExpandedName
  pub named : template.name ≡ Some name
  pub again : list_any (same_name name) (names_of before) ≡ true
  pub stands : template.place ≡ p

-- that is so of the place of the fault; or memory was refused
abbrev pub IsTwice : List Template → SheetFault → Type 0
IsTwice ts (Malformed p) = IsNamedAgain ts (place p)
IsTwice ts (Unsupported p why) = ⊥
IsTwice ts (TooDeep p) = ⊥
IsTwice ts (Undefined p) = ⊥
IsTwice ts (CallLoop p) = ⊥
IsTwice ts NoMemory = Unit {0}
