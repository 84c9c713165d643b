-- The texts of schemas: in RELAX NG's compact syntax, or declarations of elements (XML 1.0, 3.2) with the name of the document's element.
use Rattle.std.specs.Prelude.{◌≤◌, ℕ, List, length}
use Rattle.tc_base.specs.Reading.{longest_text}
use Rattle.tc_decide.specs.declared.schemas.SchemaText.{SchemaText}
use Rattle.tc_decide.specs.declared.schemas.SchemaText.TheVariants.{Compact, Declarations}
use Rattle.tc_dtd.specs.Declarations.{Declaration}
use Rattle.tc_dtd.specs.DtdGrammar.{IsGrammarOfDtd}
use Rattle.tc_dtd.specs.DtdText.{DtdText}
use Rattle.tc_dtd.specs.Faults.{IsFaultOf}
use Rattle.tc_dtd.specs.declared.faults.DtdFault.TheVariants as dtd
use Rattle.tc_model.specs.Grammars.{Grammar}
use Rattle.tc_model.specs.RncText.{RncMeans, RncText}
use Rattle.tc_model.specs.SimplifiesCounts.{IsWithinCounts}
use Rattle.tc_model.specs.Views.{grammar}
use Rattle.tc_read.specs.Refusals.{IsRefusedSchema}
use Rattle.tc_read.specs.Schemas.{PassesSize}
use Rattle.tc_read.specs.declared.faults.Reason.{Reason}
use Rattle.tc_read.specs.declared.faults.Reason.TheVariants.{Malformed, Unsupported, TooDeep, Twice}
use Rattle.tc_read.specs.declared.schemas.Schema.{Schema}
use Rattle.tc_read.specs.declared.schemas.Schema.TheVariants.{Small, TooLarge}

-- the bytes declare elements, and this is the grammar of their declarations with `root` as the document's element
pub record DeclaresGrammar (root bytes : List ℕ) (g : Grammar) : Type 0 where
  pub declarations : List Declaration
  pub declared : DtdText bytes declarations
  pub is_grammar : IsGrammarOfDtd declarations root g

-- the bytes aren't declarations of elements, each once, for this reason
abbrev pub IsRefusedDtd : List ℕ → Reason → ℕ → Type 0
IsRefusedDtd bytes Malformed place = IsFaultOf bytes (dtd.Malformed (record { 0 = place }))
IsRefusedDtd bytes (Unsupported why) place = IsFaultOf bytes (dtd.Unsupported (record { 0 = place }) why)
IsRefusedDtd bytes TooDeep place = IsFaultOf bytes (dtd.TooDeep (record { 0 = place }))
IsRefusedDtd bytes Twice place = IsFaultOf bytes (dtd.Twice (record { 0 = place }))
IsRefusedDtd bytes _ place = ⊥

-- the text spells this grammar
abbrev pub Spells : SchemaText → Grammar → Type 0
Spells (Compact text) g = RncText text.now g
Spells (Declarations root text) g = DeclaresGrammar root.now text.now g

-- the text in compact syntax means this grammar; of declarations of elements nothing is said
abbrev pub Means : SchemaText → Grammar → Type 0
Means (Compact text) g = RncMeans text.now g
Means (Declarations root text) g = ⊥

abbrev pub IsSpelled : SchemaText → Type 0
IsSpelled text = (g : Grammar) × Spells text g

-- it spells none, for this reason, which stands at this place
abbrev pub IsRefused : SchemaText → Reason → ℕ → Type 0
IsRefused (Compact text) reason place = IsRefusedSchema text.now reason place
IsRefused (Declarations root text) reason place = IsRefusedDtd text.now reason place

-- it isn't longer than a text may be
abbrev pub IsShort : SchemaText → Type 0
IsShort (Compact text) = length text.now ≤ longest_text
IsShort (Declarations root text) = length text.now ≤ longest_text

-- what is read where some bytes mean a grammar: this grammar, which is small enough, or that it passes a limit on its size
abbrev pub IsReadAsOne : (Grammar → Type 0) → Schema → Type 0
IsReadAsOne P (Small x) = P (grammar x) × IsWithinCounts (grammar x)
IsReadAsOne P (TooLarge kind number) = (x : Grammar) × P x × PassesSize x kind number

abbrev pub IsSchemaOfDtd : List ℕ → List ℕ → Schema → Type 0
IsSchemaOfDtd root bytes = IsReadAsOne (DeclaresGrammar root bytes)

abbrev pub IsSchemaOf : SchemaText → Schema → Type 0
IsSchemaOf text = IsReadAsOne (Spells text)
