-- What is kept of an XML declaration, and what the step over a character of it answers.
use Rattle.std.specs.Prelude.{◌≡◌, ◌≤◌, ℕ, List, option_map, drop}
use Rattle.tc_stream.specs.Kept.{kept, known}
use Rattle.tc_stream.specs.Declarations as scan
use Rattle.tc_stream.specs.declared.declarations.Setting.{Setting}
use Rattle.tc_stream.specs.declared.declarations.Setting.TheVariants as settings
use Rattle.tc_stream.specs.declared.declarations.Declaration.{Declaration}
use Rattle.tc_stream.specs.declared.declarations.Declaration.TheVariants as states
use Rattle.tc_stream.specs.declared.declarations.Declared.{Declared}
use Rattle.tc_stream.specs.declared.declarations.Declared.TheVariants as steps

abbrev pub setting_of : Setting → scan.Setting
setting_of settings.Version = scan.of_version
setting_of settings.Encoding = scan.of_encoding
setting_of settings.Standalone = scan.of_standalone

-- what is left of the word of a setting behind so many characters
abbrev pub left_of : Setting → ℕ → List ℕ
left_of setting count = drop count (scan.word_of (setting_of setting))

-- what is kept stands for this
abbrev pub IsDeclaring : Declaration → scan.Declaring → Type 0
IsDeclaring (states.Between set white) state = state ≡ scan.between (option_map setting_of set) white
IsDeclaring (states.InWord setting count at) state = state ≡ scan.in_word (setting_of setting) (left_of setting count) at
IsDeclaring (states.Equals setting at) state = state ≡ scan.equals (setting_of setting) at
IsDeclaring (states.Literal setting at quote value) state =
    (written : List ℕ) × (state ≡ scan.in_literal (setting_of setting) at quote written) × (known value.count value.bytes ≡ kept written)
IsDeclaring (states.Ending at) state = state ≡ scan.at_end

-- the place that is kept stands before this one, or there
abbrev pub LiesBefore : ℕ → Declaration → Type 0
LiesBefore most (states.Between set white) = Unit {0}
LiesBefore most (states.InWord setting count at) = at ≤ most
LiesBefore most (states.Equals setting at) = at ≤ most
LiesBefore most (states.Literal setting at quote value) = at ≤ most
LiesBefore most (states.Ending at) = at ≤ most

-- what a character makes of it
abbrev pub TellsDeclared : Declared → scan.Declared → Type 0
TellsDeclared (steps.More declaration) next = (state : scan.Declaring) × (next ≡ scan.more state) × IsDeclaring declaration state
TellsDeclared steps.Whole next = next ≡ scan.whole
TellsDeclared (steps.Malformed place) next = next ≡ scan.undeclared
TellsDeclared (steps.Unsupported place why) next = next ≡ scan.unread why place

-- its places stand before this one, or there
abbrev pub TellsPlace : ℕ → Declared → Type 0
TellsPlace most (steps.More declaration) = LiesBefore most declaration
TellsPlace most steps.Whole = Unit {0}
TellsPlace most (steps.Malformed place) = place ≤ most
TellsPlace most (steps.Unsupported place why) = place ≤ most
