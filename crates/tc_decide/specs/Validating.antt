-- Whether a document is valid for a schema, by their texts.
use Rattle.std.specs.Prelude.{◌<◌, ◌↔◌, Bool, IsTrue, ℕ, List, Result, Ok, Err}
use Rattle.tc_base.specs.declared.Limit.{Limit}
use Rattle.tc_base.specs.declared.Limit.TheVariants.{Symbols}
use Rattle.tc_base.specs.declared.limits.TheConstants.{MOST_INPUT_STATES, MOST_SYMBOLS}
use Rattle.tc_decide.specs.Limits.{IsWithinLimits, PassesLimit, IsValidityWithin, symbols_of_schema}
use Rattle.tc_decide.specs.Texts.{IsSpelled, IsRefused}
use Rattle.tc_decide.specs.Told.{IsToldLimit}
use Rattle.tc_decide.specs.declared.failure.Failure.{Failure}
use Rattle.tc_decide.specs.declared.failure.Failure.TheVariants.{Refused, Passes, NoMemory}
use Rattle.tc_decide.specs.declared.failure.Kind.TheVariants.{Texts}
use Rattle.tc_decide.specs.declared.failure.Which.{Which}
use Rattle.tc_decide.specs.declared.failure.Which.TheVariants as which
use Rattle.tc_decide.specs.declared.schemas.SchemaText.{SchemaText}
use Rattle.tc_model.specs.Grammars.{Grammar}
use Rattle.tc_model.specs.States.{input}
use Rattle.tc_model.specs.Symbols.{symbol_count}
use Rattle.tc_model.specs.Trees.{Trees}
use Rattle.tc_model.specs.Validity.{IsValid}
use Rattle.tc_model.specs.Views.{place}
use Rattle.tc_print.specs.ReadBack.{IsReadAs}
use Rattle.tc_read.specs.Refusals.{IsRefusedDocument}
use Rattle.tc_read.specs.declared.faults.Reason.{Reason}

-- the first limit of validity that the schema passes, and its number
pub data PassesValidity (g : Grammar) : Limit → ℕ → Type 0 where
  passes_schema : {kind : Limit} {number : ℕ} → PassesLimit g input MOST_INPUT_STATES kind number → PassesValidity g kind number
  passes_symbols : IsWithinLimits g input MOST_INPUT_STATES → MOST_SYMBOLS < symbol_count (symbols_of_schema g) → PassesValidity g Symbols MOST_SYMBOLS

-- whether it is valid, or why that isn't told
abbrev pub Judgement : Type 0
Judgement = Result Bool Failure

abbrev pub IsToldValid : Judgement → Type 0
IsToldValid (Ok valid) = IsTrue valid
IsToldValid (Err failure) = ⊥

abbrev pub IsToldInvalid : Judgement → Type 0
IsToldInvalid (Ok valid) = ¬ (IsTrue valid)
IsToldInvalid (Err failure) = ⊥

-- the texts spell a schema and a document
abbrev pub AreRead : SchemaText → List ℕ → Type 0
AreRead schema document = IsSpelled schema × ((d : Trees) × IsReadAs document d)

-- this one of the two is refused, for this reason, which stands at this place, and the one before it is accepted
abbrev pub IsFirstRefusedOfDocument : SchemaText → List ℕ → Which → Reason → ℕ → Type 0
IsFirstRefusedOfDocument schema document which.Input reason at = IsRefused schema reason at
IsFirstRefusedOfDocument schema document which.Output reason at = ⊥
IsFirstRefusedOfDocument schema document which.Sheet reason at = ⊥
IsFirstRefusedOfDocument schema document which.Document reason at = IsSpelled schema × IsRefusedDocument document reason at

-- the text that is told to be refused is so, and where none is told to be, both are accepted
abbrev pub TellsRefusalOfDocument : SchemaText → List ℕ → Judgement → Type 0
TellsRefusalOfDocument schema document (Ok valid) = AreRead schema document
TellsRefusalOfDocument schema document (Err (Refused which reason at)) = IsFirstRefusedOfDocument schema document which reason (place at)
TellsRefusalOfDocument schema document (Err (Passes kind number)) = AreRead schema document
TellsRefusalOfDocument schema document (Err NoMemory) = Unit {0}

-- yes exactly where the schema passes no limit and the document is valid, no exactly where it passes none and the document isn't; and a limit exactly where one is passed
pub record DecidesValidity (g : Grammar) (d : Trees) (judgement : Judgement) : Type 0 where
  pub yes : IsToldValid judgement ↔ (IsValidityWithin g × IsValid g d)
  pub no : IsToldInvalid judgement ↔ (IsValidityWithin g × ¬ (IsValid g d))
  pub limit : IsToldLimit judgement ↔ ((kind : Limit) × (number : ℕ) × PassesValidity g kind number)

-- the limit that a failure tells
abbrev pub TellsValidityLimit : Grammar → Judgement → Type 0
TellsValidityLimit g (Err (Passes (Texts kind) number)) = PassesValidity g kind number
TellsValidityLimit g (Err (Passes _ number)) = ⊥
TellsValidityLimit g _ = Unit {0}
