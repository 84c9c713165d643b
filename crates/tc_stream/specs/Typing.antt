-- What is kept of a document type declaration, and what the step over a character of it answers.
use Rattle.std.specs.Prelude.{◌≡◌, ℕ, List, [], drop, codes}
use Rattle.tc_stream.specs.Doctypes as scan
use Rattle.tc_stream.specs.declared.doctypes.IdWord.{IdWord}
use Rattle.tc_stream.specs.declared.doctypes.IdWord.TheVariants as ids
use Rattle.tc_stream.specs.declared.doctypes.Doctype.{Doctype}
use Rattle.tc_stream.specs.declared.doctypes.Doctype.TheVariants as states
use Rattle.tc_stream.specs.declared.doctypes.Typed.{Typed}
use Rattle.tc_stream.specs.declared.doctypes.Typed.TheVariants as steps

abbrev pub id_word : IdWord → List ℕ
id_word ids.System = codes "SYSTEM"
id_word ids.Public = codes "PUBLIC"

-- how many literals follow it
abbrev pub id_literals : IdWord → ℕ
id_literals ids.System = 1
id_literals ids.Public = 2

-- what is kept of one that has begun
abbrev pub typing_of : Doctype → scan.Typing
typing_of states.Begun = scan.begun
typing_of states.BeforeName = scan.before_name
typing_of (states.Name local) = scan.in_name local
typing_of states.Colon = scan.at_colon
typing_of states.Named = scan.named
typing_of (states.InWord id count) = scan.in_word (drop count (id_word id)) (id_literals id)
typing_of (states.Apart literals) = scan.in_word [] literals
typing_of (states.BeforeLiteral literals) = scan.before_literal literals
typing_of (states.Literal literals quote) = scan.in_literal literals quote
typing_of states.Identified = scan.identified

-- what a character makes of it
abbrev pub TellsTyped : Typed → scan.Typed → Type 0
TellsTyped (steps.More doctype) next = next ≡ scan.more (typing_of doctype)
TellsTyped steps.Whole next = next ≡ scan.whole
TellsTyped steps.Malformed next = next ≡ scan.untyped
TellsTyped steps.Subset next = next ≡ scan.opens_subset
