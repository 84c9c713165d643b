-- What contracts see of a schema by which documents are validated, and of a document that is.
use Rattle.std.specs.Prelude.{◌≡◌, ◌↔◌, IsTrue, ℕ, List, Ok, Err}
use Rattle.tc_auto.specs.Stands as a
use Rattle.tc_decide.specs.Limits.{IsValidityWithin, symbols_of_schema}
use Rattle.tc_decide.specs.Texts.{Spells}
use Rattle.tc_decide.specs.Validating.{PassesValidity, Judgement, TellsRefusalOfDocument}
use Rattle.tc_decide.specs.declared.failure.Failure.{Failure}
use Rattle.tc_decide.specs.declared.failure.Failure.TheVariants.{Refused, Passes, NoMemory}
use Rattle.tc_decide.specs.declared.failure.Kind.TheVariants.{Texts}
use Rattle.tc_decide.specs.declared.failure.Which.TheVariants as which
use Rattle.tc_decide.specs.declared.schemas.SchemaText.{SchemaText}
use Rattle.tc_decide.specs.declared.validating.SchemaParts.{SchemaParts}
use Rattle.tc_model.specs.Grammars.{Grammar}
use Rattle.tc_model.specs.SimplifiesLaws.{IsStart}
use Rattle.tc_model.specs.States.{input}
use Rattle.tc_model.specs.Trees.{Trees}
use Rattle.tc_model.specs.Validity.{IsValid}
use Rattle.tc_model.specs.Views.{place}
use Rattle.tc_print.specs.ReadBack.{IsReadAs}
use Rattle.tc_read.specs.Refusals.{IsRefusedDocument}

-- the automaton of a schema within the limits of validity, and its symbols
pub record IsSchemaParts (g : Grammar) (parts : SchemaParts) : Type 0 where
  pub within_limits : IsValidityWithin g
  pub start : IsStart g.start
  pub automaton : a.Stands input g parts.automaton
  pub symbols : parts.alphabet ≡ symbols_of_schema g

module _ (g : Grammar) where
  -- what is told of a document
  abbrev pub TellsOfTree : Trees → Judgement → Type 0
  TellsOfTree d (Ok valid) = IsValidityWithin g × (IsTrue valid ↔ IsValid g d)
  TellsOfTree d (Err (Passes (Texts kind) number)) = PassesValidity g kind number
  TellsOfTree d (Err (Passes _ number)) = ⊥
  TellsOfTree d (Err (Refused which reason at)) = ⊥
  TellsOfTree d (Err NoMemory) = Unit {0}

  -- and of a text: of the document that it means, or that it is refused
  abbrev pub TellsOfText : List ℕ → Judgement → Type 0
  TellsOfText bytes (Ok valid) = (d : Trees) × IsReadAs bytes d × TellsOfTree d (Ok valid)
  TellsOfText bytes (Err (Passes kind number)) = (d : Trees) × IsReadAs bytes d × TellsOfTree d (Err (Passes kind number))
  TellsOfText bytes (Err (Refused found reason at)) = (found ≡ which.Document) × IsRefusedDocument bytes reason (place at)
  TellsOfText bytes (Err NoMemory) = Unit {0}

-- what is told of the texts of a schema and a document
pub record IsFoundOfDocument (schema : SchemaText) (document : List ℕ) (judgement : Judgement) : Type 0 where
  pub refusal : TellsRefusalOfDocument schema document judgement
  pub found : (g : Grammar) (d : Trees) → Spells schema g → IsReadAs document d → TellsOfTree g d judgement
