-- What is kept of the target of a processing instruction, and what the step over a character of it answers.
use Rattle.std.specs.Prelude.{◌≡◌, ℕ, List, Option, None, Some}
use Rattle.tc_stream.specs.Kept.{kept, known}
use Rattle.tc_stream.specs.Targets as scan
use Rattle.tc_stream.specs.declared.words.Word.{Word}
use Rattle.tc_stream.specs.declared.items.Targeted.{Targeted}
use Rattle.tc_stream.specs.declared.items.Targeted.TheVariants as steps

-- the word is kept of this
abbrev pub Keeps : Word → List ℕ → Type 0
Keeps word written = known word.count word.bytes ≡ kept written

-- what is kept stands for nothing, or for these bytes of a name
abbrev pub IsTargeting : Option Word → Option (List ℕ) → Type 0
IsTargeting None state = state ≡ None
IsTargeting (Some word) state = (written : List ℕ) × (state ≡ Some written) × Keeps word written

-- what a character makes of it
abbrev pub TellsTargeted : Targeted → scan.Targeted → Type 0
TellsTargeted (steps.More word) next = (written : List ℕ) × (next ≡ scan.more written) × Keeps word written
TellsTargeted (steps.White word) next = (written : List ℕ) × (next ≡ scan.then_white written) × Keeps word written
TellsTargeted (steps.Question word) next = (written : List ℕ) × (next ≡ scan.then_question written) × Keeps word written
TellsTargeted steps.Malformed next = next ≡ scan.untargeted
