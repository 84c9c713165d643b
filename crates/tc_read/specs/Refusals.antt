-- Why the text of an operand is refused, and where.
use Rattle.std.specs.Prelude.{◌≤◌, ◌⊎◌, ℕ, Bool, true, false, List, ◌++◌, length, codes}
use Rattle.tc_base.specs.Reasons.{word_of}
use Rattle.tc_model.specs.RawTrees.{RawTrees}
use Rattle.tc_model.specs.XmlText.{XmlText, Reads, deepest_element}
use Rattle.tc_model.specs.XmlTextRefusals as xml
use Rattle.tc_model.specs.CompactSyntaxTrees.{Syntax}
use Rattle.tc_model.specs.CompactSyntax.{Spells, CompactSyntax, deepest_nesting}
use Rattle.tc_model.specs.SimplifiesFaults as fault
use Rattle.tc_model.specs.SimplifiesFaults.{Fails}
use Rattle.tc_model.specs.CompactSyntaxRefused.{MalformedAt, UnsupportedAt, TooDeepAt}
use Rattle.tc_model.specs.SheetText.{SheetFails}
use Rattle.tc_model.specs.SheetText as sheet
use Rattle.tc_sheet.specs.Changes.{mended, flattened, both}
use Rattle.tc_sheet.specs.Faults.{OfAllWith, IsNoneWith}
use Rattle.tc_sheet.specs.LookedAt.{IsLookedAt, IsAt, IsUnrefused, IsRefused, IsDeep}
use Rattle.tc_sheet.specs.Tables.{IsNamedAgain}
use Rattle.tc_read.specs.declared.faults.Reason.{Reason}
use Rattle.tc_read.specs.declared.faults.Reason.TheVariants.{Malformed, Unsupported, TooDeep, Undefined, Twice, Loop, BadStart, BadExcept, CallLoop}

abbrev pub reason_text : Reason → List ℕ
reason_text Malformed = codes "malformed"
reason_text (Unsupported why) = codes "unsupported " ++ word_of why
reason_text TooDeep = codes "too-deep"
reason_text Undefined = codes "undefined"
reason_text Twice = codes "twice"
reason_text Loop = codes "loop"
reason_text BadStart = codes "bad-start"
reason_text BadExcept = codes "bad-except"
reason_text CallLoop = codes "call-loop"

-- The bytes are no document's text. Malformed: not even where elements may stand deeper, and references to other entities are read, and
-- reading comes to no construct that isn't read and to no element too deep; what stands behind the place of such a one isn't looked at.
-- Unsupported: such a construct stands there, and they are none at any depth. Too deep: an element stands too deep there, and they are
-- none even where references to other entities are read.
abbrev pub IsRefusedDocument : List ℕ → Reason → ℕ → Type 0
IsRefusedDocument bytes Malformed place = (place ≤ length bytes) × ((deepest : ℕ) (h : RawTrees) → Reads true deepest bytes h → ⊥) × xml.IsNotRefused bytes
IsRefusedDocument bytes (Unsupported why) place = xml.XmlTextRefuses bytes (xml.unsupported why) place × ((deepest : ℕ) (h : RawTrees) → Reads false deepest bytes h → ⊥)
IsRefusedDocument bytes TooDeep place = xml.XmlTextRefuses bytes xml.too_deep place × ((h : RawTrees) → Reads true deepest_element bytes h → ⊥)
IsRefusedDocument bytes _ place = ⊥

-- the bytes spell a schema that has this fault
abbrev pub SpellsFault : List ℕ → fault.Fault → Type 0
SpellsFault bytes f = (s : Syntax) × CompactSyntax bytes s × Fails s f

-- The bytes are no schema's text, or one with a fault. Malformed, unsupported and too deep are as of documents, data taking the place of
-- references, and braces and parentheses that of elements.
abbrev pub IsRefusedSchema : List ℕ → Reason → ℕ → Type 0
IsRefusedSchema bytes Malformed place = MalformedAt bytes place × ((others : Bool) (deepest : ℕ) (s : Syntax) → Spells others deepest bytes s → ⊥)
IsRefusedSchema bytes (Unsupported why) place = UnsupportedAt why bytes place × ((deepest : ℕ) (s : Syntax) → Spells false deepest bytes s → ⊥)
IsRefusedSchema bytes TooDeep place = TooDeepAt bytes place × ((others : Bool) (s : Syntax) → Spells others deepest_nesting bytes s → ⊥)
IsRefusedSchema bytes Undefined place = SpellsFault bytes (fault.undefined place)
IsRefusedSchema bytes Twice place = SpellsFault bytes (fault.twice place)
IsRefusedSchema bytes Loop place = SpellsFault bytes (fault.loop place)
IsRefusedSchema bytes BadStart place = SpellsFault bytes (fault.bad_start place)
IsRefusedSchema bytes BadExcept place = SpellsFault bytes (fault.bad_except place)
IsRefusedSchema bytes CallLoop place = ⊥

-- the bytes are an XML text, and this is so of its raw tree
abbrev pub SpellsTree : List ℕ → (RawTrees → Type 0) → Type 0
SpellsTree bytes P = (raw : RawTrees) × XmlText bytes raw × P raw

-- The bytes are no stylesheet's text: no XML text, as of documents, or one whose tree isn't a stylesheet. Malformed: not even with what isn't
-- supported taken away or exchanged, and with others in place of the selects, patterns and tests that nest too deep, unless the template there is
-- the first that is named again; and no reason of its own refuses what stands there. Unsupported: such a construct stands there, and not even with
-- such others. Too deep: one of these nests too deep there, and not even with what isn't supported taken away or exchanged. Undefined and call loop:
-- the first call stands there that has no template, or that leads back to its own. All this stands where stylesheets are looked at.
abbrev pub IsRefusedSheet : List ℕ → Reason → ℕ → Type 0
IsRefusedSheet bytes Malformed place = IsRefusedDocument bytes Malformed place ⊎ ((place ≤ length bytes) × SpellsTree bytes (λ raw. IsAt (IsLookedAt raw) IsUnrefused place × OfAllWith both raw (λ ts. IsNamedAgain ts place)))
IsRefusedSheet bytes (Unsupported why) place = IsRefusedDocument bytes (Unsupported why) place ⊎ SpellsTree bytes (λ raw. IsAt (IsLookedAt raw) (IsRefused why) place × IsNoneWith flattened raw)
IsRefusedSheet bytes TooDeep place = IsRefusedDocument bytes TooDeep place ⊎ SpellsTree bytes (λ raw. IsAt (IsLookedAt raw) IsDeep place × IsNoneWith mended raw)
IsRefusedSheet bytes Undefined place = SpellsTree bytes (λ raw. SheetFails raw sheet.undefined place)
IsRefusedSheet bytes CallLoop place = SpellsTree bytes (λ raw. SheetFails raw sheet.call_loop place)
IsRefusedSheet bytes _ place = ⊥
