-- What is kept of a reference, and what the step over a character of it answers.
use Rattle.std.specs.Prelude.{◌≡◌, ℕ, List}
use Rattle.tc_stream.specs.Kept.{kept, known}
use Rattle.tc_stream.specs.References as scan
use Rattle.tc_stream.specs.declared.references.Reference.{Reference}
use Rattle.tc_stream.specs.declared.references.Reference.TheVariants as refs
use Rattle.tc_stream.specs.declared.references.Referred.{Referred}
use Rattle.tc_stream.specs.declared.references.Referred.TheVariants as steps

-- what is kept stands for this
abbrev pub IsReferring : Reference → scan.Referring → Type 0
IsReferring refs.Begun state = state ≡ scan.begun
IsReferring refs.NumberSign state = state ≡ scan.number_sign
IsReferring refs.XSign state = state ≡ scan.x_sign
IsReferring (refs.Digits number) state = state ≡ scan.digits number.base number.value
IsReferring (refs.Entity name) state = (written : List ℕ) × (state ≡ scan.in_name written) × (known name.count name.bytes ≡ kept written)

-- what a character makes of it
abbrev pub TellsReferred : Referred → scan.Referred → Type 0
TellsReferred (steps.More reference) next = (state : scan.Referring) × (next ≡ scan.more state) × IsReferring reference state
TellsReferred (steps.Character c) next = next ≡ scan.stands_for c
TellsReferred steps.OtherEntity next = next ≡ scan.other_entity
TellsReferred steps.Malformed next = next ≡ scan.unreferred
