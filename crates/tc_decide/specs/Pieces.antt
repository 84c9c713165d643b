-- Whether a document that comes in pieces is valid for a schema, by their texts. The limits of the schema come first: nothing is said of the document before
-- they are kept. Into which pieces it is cut makes no difference, but that the place of a malformed document is left open.
use Rattle.std.specs.Prelude.{◌≡◌, ◌↔◌, ℕ, List, Ok, Err}
use Rattle.tc_base.specs.declared.limits.TheConstants.{LONGEST_TAG, MOST_NAMES}
use Rattle.tc_decide.specs.Limits.{IsValidityWithin}
use Rattle.tc_decide.specs.Texts.{Spells, IsSpelled, IsRefused}
use Rattle.tc_decide.specs.Validating.{PassesValidity, Judgement, IsToldValid, IsToldInvalid}
use Rattle.tc_decide.specs.Told.{IsToldLimit}
use Rattle.tc_decide.specs.declared.failure.Failure.TheVariants.{Refused, Passes, NoMemory}
use Rattle.tc_decide.specs.declared.failure.Kind.{Kind}
use Rattle.tc_decide.specs.declared.failure.Kind.TheVariants.{Texts, Pieces}
use Rattle.tc_decide.specs.declared.failure.PieceMeasure.TheVariants.{Tag, Names}
use Rattle.tc_decide.specs.declared.failure.Which.{Which}
use Rattle.tc_decide.specs.declared.failure.Which.TheVariants as which
use Rattle.tc_decide.specs.declared.schemas.SchemaText.{SchemaText}
use Rattle.tc_model.specs.Grammars.{Grammar}
use Rattle.tc_model.specs.RawTrees.{RawTrees}
use Rattle.tc_model.specs.Stripped.{stripped}
use Rattle.tc_model.specs.Trees.{Trees}
use Rattle.tc_model.specs.Validity.{IsValid}
use Rattle.tc_model.specs.Views.{place}
use Rattle.tc_model.specs.XmlText.{XmlText}
use Rattle.tc_read.specs.Refusals.{IsRefusedDocument}
use Rattle.tc_read.specs.declared.faults.Reason.{Reason}
use Rattle.tc_stream.specs.XmlTextMeasures.{Measure, tag, names, IsGood, PassesFirst, IsWithinMeasures}

-- the bytes are a good text, and this is so of its document
abbrev pub SpellsGood : List ℕ → (Trees → Type 0) → Type 0
SpellsGood bytes P = (h : RawTrees) × IsGood bytes h × P (stripped h)

-- the bytes are no document's text, and no measure passes in them before reading stops
pub record IsNoDocumentInPieces (bytes : List ℕ) : Type 0 where
  pub within : IsWithinMeasures bytes
  pub no_tree : (h : RawTrees) → XmlText bytes h → ⊥

-- so, for a reason for which whole ones are refused
abbrev pub IsRefusedInPieces : List ℕ → Reason → ℕ → Type 0
IsRefusedInPieces bytes reason at = IsRefusedDocument bytes reason at × IsWithinMeasures bytes

-- this measure passes first, somewhere
abbrev pub IsPassedIn : List ℕ → Measure → Type 0
IsPassedIn bytes measure = (at : ℕ) × PassesFirst bytes measure at

module _ (g : Grammar) (bytes : List ℕ) where
  -- This is passed, which has this number, and nothing that is tried before it: a limit of the schema, and then a measure, which comes before anything
  -- that stands behind its place.
  abbrev pub PassesInPieces : Kind → ℕ → Type 0
  PassesInPieces (Texts kind) number = PassesValidity g kind number
  PassesInPieces (Pieces Tag) number = IsValidityWithin g × IsPassedIn bytes tag × (number ≡ LONGEST_TAG)
  PassesInPieces (Pieces Names) number = IsValidityWithin g × IsPassedIn bytes names × (number ≡ MOST_NAMES)
  PassesInPieces _ number = ⊥

  -- the document is told to be refused
  abbrev pub IsToldRefused : Judgement → Type 0
  IsToldRefused (Err (Refused which reason at)) = Unit {0}
  IsToldRefused _ = ⊥

  -- Where the schema keeps to its limits, yes exactly where the bytes are a good text whose document is valid, no exactly where they are one whose document
  -- isn't, refused exactly where they are no document's text and no measure passes in them; and a limit exactly where one is passed.
  pub record DecidesInPieces (judgement : Judgement) : Type 0 where
    pub yes : IsToldValid judgement ↔ (IsValidityWithin g × SpellsGood bytes (λ d. IsValid g d))
    pub no : IsToldInvalid judgement ↔ (IsValidityWithin g × SpellsGood bytes (λ d. ¬ (IsValid g d)))
    pub refusal : IsToldRefused judgement ↔ (IsValidityWithin g × IsNoDocumentInPieces bytes)
    pub limit : IsToldLimit judgement ↔ ((kind : Kind) × (number : ℕ) × PassesInPieces kind number)

  -- the limit that a failure tells
  abbrev pub TellsLimitInPieces : Judgement → Type 0
  TellsLimitInPieces (Err (Passes kind number)) = PassesInPieces kind number
  TellsLimitInPieces _ = Unit {0}

-- this one of the two is refused, for this reason, which stands at this place; the document, where the schema is accepted and keeps to its limits
abbrev pub IsFirstRefusedInPieces : SchemaText → List ℕ → Which → Reason → ℕ → Type 0
IsFirstRefusedInPieces schema bytes which.Input reason at = IsRefused schema reason at
IsFirstRefusedInPieces schema bytes which.Output reason at = ⊥
IsFirstRefusedInPieces schema bytes which.Sheet reason at = ⊥
IsFirstRefusedInPieces schema bytes which.Document reason at = (g : Grammar) × Spells schema g × IsValidityWithin g × IsRefusedInPieces bytes reason at

-- the text that is told to be refused is so, and where none is told to be, the schema is accepted; so is the document where it is judged
abbrev pub TellsRefusalInPieces : SchemaText → List ℕ → Judgement → Type 0
TellsRefusalInPieces schema bytes (Ok valid) = IsSpelled schema × SpellsGood bytes (λ d. Unit {0})
TellsRefusalInPieces schema bytes (Err (Refused which reason at)) = IsFirstRefusedInPieces schema bytes which reason (place at)
TellsRefusalInPieces schema bytes (Err (Passes kind number)) = IsSpelled schema
TellsRefusalInPieces schema bytes (Err NoMemory) = Unit {0}
