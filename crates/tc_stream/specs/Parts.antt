-- What stands before a place where something has begun and hasn't ended, by what is known of it (XML 1.0, Fifth Edition, 2.3 to 2.8, 3.1, 4.1).
use Rattle.std.specs.Prelude.{◌≡◌, ◌≢◌, ◌<◌, ◌≤◌, ◌+◌, ℕ, Bool, true, false, List, [], ◌∷◌, ◌++◌, Option, None, Some, length, take, codes, encode_utf8, encode_utf8_all, IsTrue, IsFalse}
use Rattle.std.specs.List.{list_all}
use Rattle.std.specs.Str.{str_eq_ignore_ascii_case}
use Rattle.tc_base.specs.declared.limits.TheConstants.{DEEPEST_NESTING, LONGEST_TAG}
use Rattle.tc_model.specs.Names.{IsNcName, is_ncname_start}
use Rattle.tc_model.specs.XmlTextBytes.{Lacks, BeginsWithWhite}
use Rattle.tc_model.specs.XmlTextReferences.{is_plain}
use Rattle.tc_stream.specs.Scans.{going, comment_scan, instruction_scan, cdata_scan, quoted, tag_scan}
use Rattle.tc_stream.specs.Declarations as declarations
use Rattle.tc_stream.specs.Declaring.{IsDeclaring, LiesBefore}
use Rattle.tc_stream.specs.Doctypes as doctypes
use Rattle.tc_stream.specs.Typing.{typing_of}
use Rattle.tc_stream.specs.References as references
use Rattle.tc_stream.specs.Referring.{IsReferring}
use Rattle.tc_stream.specs.Targeting.{IsTargeting}
use Rattle.tc_stream.specs.Marks.{MayStand, mark_of}
use Rattle.tc_stream.specs.declared.doctypes.Doctype.TheVariants as types
use Rattle.tc_stream.specs.declared.parts.Mark.{Mark}
use Rattle.tc_stream.specs.declared.parts.Mark.TheVariants as marks
use Rattle.tc_stream.specs.declared.parts.Part.{Part}
use Rattle.tc_stream.specs.declared.parts.Part.TheVariants as parts
use Rattle.tc_stream.specs.declared.phases.Phase.{Phase}
use Rattle.tc_stream.specs.declared.phases.Phase.TheVariants as phases
use Rattle.tc_stream.specs.declared.reader.Reader.{Reader}

-- a run of character data that may go on
pub record IsData (brackets : ℕ) (bytes : List ℕ) : Type 0 where
  pub some : 0 < length bytes
  pub plain : IsTrue (list_all is_plain bytes)
  pub scanned : cdata_scan 0 bytes ≡ going brackets

-- a target that has begun, or nothing
abbrev pub IsTargetSoFar : Option (List ℕ) → List ℕ → Type 0
IsTargetSoFar None bytes = bytes ≡ []
IsTargetSoFar (Some name) bytes = (bytes ≡ name) × IsNcName name

-- the target of a processing instruction that is no XML declaration
abbrev pub IsOtherTarget : List ℕ → Type 0
IsOtherTarget name = IsNcName name × IsFalse (str_eq_ignore_ascii_case name (codes "xml"))

-- These characters, which stand behind so many bytes, stand before a place where this has begun, by what a reader keeps: the bytes of a tag, and how many elements
-- are open.
abbrev pub Pends : ℕ → Part → Reader → List ℕ → Type 0
Pends n parts.Between kept pending = pending ≡ []
Pends n (parts.Data brackets) kept pending = IsData brackets pending
Pends n parts.Markup kept pending = pending ≡ codes "<"
Pends n parts.Marked kept pending = pending ≡ codes "<!"
Pends n (parts.Mark mark count) kept pending = (3 ≤ count) × (count < length (mark_of mark)) × (pending ≡ take count (mark_of mark))
Pends n (parts.Reference known) kept pending =
    (state : references.Referring) × (cs : List ℕ) × (pending ≡ 0x26 ∷ encode_utf8_all cs) × (references.reference_scan references.begun cs ≡ references.referring state) × IsReferring known state
Pends n (parts.Comment hyphens) kept pending = (inside : List ℕ) × (pending ≡ codes "<!--" ++ inside) × (comment_scan 0 inside ≡ going hyphens)
Pends n (parts.Cdata brackets) kept pending = (inside : List ℕ) × (pending ≡ codes "<![CDATA[" ++ inside) × (cdata_scan 0 inside ≡ going brackets)
Pends n (parts.Target target) kept pending = (state : Option (List ℕ)) × (name : List ℕ) × (pending ≡ codes "<?" ++ name) × IsTargetSoFar state name × IsTargeting target state
Pends n parts.Targeted kept pending = (name : List ℕ) × (pending ≡ codes "<?" ++ (name ++ 0x3F ∷ [])) × IsOtherTarget name
Pends n (parts.Instruction question) kept pending =
    (name inside : List ℕ) × (pending ≡ codes "<?" ++ (name ++ inside)) × IsOtherTarget name × BeginsWithWhite inside × (instruction_scan 0 inside ≡ going question)
Pends n (parts.Declaration known) kept pending =
    (state : declarations.Declaring) × (behind : List ℕ) × (pending ≡ codes "<?xml" ++ behind) × BeginsWithWhite behind
    × (declarations.declaration_scan (declarations.between None false) (n + 5) behind ≡ declarations.declaring state) × IsDeclaring known state × LiesBefore (n + length pending) known
Pends n (parts.Doctype known) kept pending =
    (cs : List ℕ) × (pending ≡ codes "<!DOCTYPE" ++ encode_utf8_all cs) × (doctypes.doctype_scan doctypes.begun cs ≡ doctypes.typing (typing_of known))
Pends n (parts.Tag quote) kept pending =
    let bytes = kept.tag.bytes.items in
    (pending ≡ bytes) × ((c : ℕ) × (rest : List ℕ) × (bytes ≡ 0x3C ∷ (encode_utf8 c ++ rest)) × (is_ncname_start c ≡ true)) × (tag_scan None bytes ≡ quoted quote) × (length bytes ≤ LONGEST_TAG)
    × (length kept.elements.levels.items < DEEPEST_NESTING)
Pends n parts.EndTag kept pending =
    let bytes = kept.tag.bytes.items in (pending ≡ bytes) × ((rest : List ℕ) × (bytes ≡ codes "</" ++ rest)) × Lacks (0x3E ∷ []) bytes × (length bytes ≤ LONGEST_TAG)
Pends n parts.DeepName kept pending = (name : List ℕ) × (pending ≡ 0x3C ∷ name) × IsNcName name × (length kept.elements.levels.items ≡ DEEPEST_NESTING)
Pends n parts.DeepPrefix kept pending = (prefix : List ℕ) × (pending ≡ 0x3C ∷ (prefix ++ 0x3A ∷ [])) × IsNcName prefix × (length kept.elements.levels.items ≡ DEEPEST_NESTING)

-- where in a document this may have begun: a byte order mark never is behind it, and an XML declaration only behind what begins as one
abbrev pub MayPend : Phase → Part → Type 0
MayPend phase parts.Between = Unit {0}
MayPend phase (parts.Data brackets) = phase ≡ phases.Content
MayPend phase parts.Markup = phase ≢ phases.Mark
MayPend phase parts.Marked = phase ≢ phases.Mark
MayPend phase (parts.Mark mark count) = (phase ≢ phases.Mark) × (phase ≢ phases.Front) × MayStand phase mark
MayPend phase (parts.Reference known) = phase ≡ phases.Content
MayPend phase (parts.Comment hyphens) = (phase ≢ phases.Mark) × (phase ≢ phases.Front)
MayPend phase (parts.Cdata brackets) = phase ≡ phases.Content
MayPend phase (parts.Target target) = phase ≢ phases.Mark
MayPend phase parts.Targeted = (phase ≢ phases.Mark) × (phase ≢ phases.Front)
MayPend phase (parts.Instruction question) = (phase ≢ phases.Mark) × (phase ≢ phases.Front)
MayPend phase (parts.Declaration known) = phase ≡ phases.Front
MayPend phase (parts.Doctype known) = phase ≡ phases.Prolog
MayPend phase (parts.Tag quote) = (phase ≢ phases.Mark) × (phase ≢ phases.End)
MayPend phase parts.EndTag = phase ≡ phases.Content
MayPend phase parts.DeepName = phase ≡ phases.Content
MayPend phase parts.DeepPrefix = phase ≡ phases.Content

-- what has begun behind the whole of a mark
abbrev pub begun_by : Mark → Part
begun_by marks.Comment = parts.Comment 0
begun_by marks.Cdata = parts.Cdata 0
begun_by marks.Doctype = parts.Doctype types.Begun

-- what goes character by character
abbrev pub is_by_char : Part → Bool
is_by_char parts.Markup = true
is_by_char parts.Marked = true
is_by_char (parts.Mark mark count) = true
is_by_char (parts.Reference known) = true
is_by_char (parts.Target target) = true
is_by_char parts.Targeted = true
is_by_char (parts.Declaration known) = true
is_by_char (parts.Doctype known) = true
is_by_char parts.DeepName = true
is_by_char parts.DeepPrefix = true
is_by_char _ = false
