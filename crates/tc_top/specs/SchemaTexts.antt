-- The texts of schemas, by the words that name them: of a schema in RELAX NG's compact syntax, or of declarations of elements (XML 1.0, 3.2)
-- with the document's element.
use Rattle.std.specs.Prelude.{◌≡◌, ℕ, List, Some, None}
use Rattle.tc_answer.specs.SchemaWords.{root_of}
use Rattle.tc_decide.specs.Texts.{DeclaresGrammar, IsRefusedDtd}
use Rattle.tc_decide.specs.declared.schemas.SchemaText.{SchemaText as Text}
use Rattle.tc_decide.specs.declared.schemas.SchemaText.TheVariants.{Compact, Declarations}
use Rattle.tc_model.specs.Grammars.{Grammar}
use Rattle.tc_model.specs.RncText.{RncText}
use Rattle.tc_read.specs.Refusals.{IsRefusedSchema}
use Rattle.tc_read.specs.declared.faults.Reason.{Reason}

-- the bytes behind a word in a schema's place are those of this grammar
pub data SchemaText (word bytes : List ℕ) (g : Grammar) : Type 0 where
  compact : root_of word ≡ None → RncText bytes g → SchemaText word bytes g
  declares : {root : List ℕ} → root_of word ≡ Some root → DeclaresGrammar root bytes g → SchemaText word bytes g

-- they are those of none, for this reason
pub data IsRefusedText (word bytes : List ℕ) (reason : Reason) (place : ℕ) : Type 0 where
  refuses_compact : root_of word ≡ None → IsRefusedSchema bytes reason place → IsRefusedText word bytes reason place
  refuses_declarations : {root : List ℕ} → root_of word ≡ Some root → IsRefusedDtd bytes reason place → IsRefusedText word bytes reason place

-- the text of an operand, as its word says
abbrev pub IsTextOf : List ℕ → List ℕ → Text → Type 0
IsTextOf word bytes (Compact text) = (root_of word ≡ None) × (text.now ≡ bytes)
IsTextOf word bytes (Declarations root text) = (root_of word ≡ Some root.now) × (text.now ≡ bytes)
