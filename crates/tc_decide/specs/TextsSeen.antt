-- What contracts see of texts that are read, of the machine of two schemas and a stylesheet, and of why there is none.
use Rattle.std.specs.Prelude.{◌≡◌, ℕ, List, Result, Ok, Err}
use Rattle.tc_base.specs.declared.limits.TheConstants.{MOST_OUTPUTS}
use Rattle.tc_base.specs.declared.Limit.{Limit}
use Rattle.tc_beh.specs.declared.machine.Machine.{Machine}
use Rattle.tc_close.specs.declared.decision.CloseFault.{CloseFault}
use Rattle.tc_close.specs.declared.decision.CloseFault.TheVariants as close
use Rattle.tc_cert.specs.declared.text.CertWriteFault.{CertWriteFault}
use Rattle.tc_cert.specs.declared.text.CertWriteFault.TheVariants as write
use Rattle.tc_decide.specs.Certificates.{HasShortCertificate, IsTextOfLeast, PassesInProof}
use Rattle.tc_decide.specs.Checking.{PassesTripleLimit, AreRowCounts, IsLeastCounter}
use Rattle.tc_decide.specs.Deciding.{IsFirstRefused, TellsRefusal, KeepsAll, PassesFirst, IsOutputOf}
use Rattle.tc_decide.specs.MachinesSeen.{IsMachineFor}
use Rattle.tc_decide.specs.Texts.{Spells}
use Rattle.tc_decide.specs.declared.failure.Failure.{Failure}
use Rattle.tc_decide.specs.declared.failure.Failure.TheVariants.{Refused, Passes, NoMemory}
use Rattle.tc_decide.specs.declared.failure.Kind.TheVariants.{Texts, Rows, Certificate}
use Rattle.tc_decide.specs.declared.failure.RowCount.TheVariants.{Trees, Hedges, Outputs}
use Rattle.tc_decide.specs.declared.failure.Which.{Which}
use Rattle.tc_decide.specs.declared.failure.Which.TheVariants as which
use Rattle.tc_decide.specs.declared.limits.TheConstants.{LONGEST_CERTIFICATE}
use Rattle.tc_decide.specs.declared.machine.LimitFault.{LimitFault}
use Rattle.tc_decide.specs.declared.machine.LimitFault.TheVariants as limit
use Rattle.tc_decide.specs.declared.schemas.SchemaText.{SchemaText}
use Rattle.tc_decide.specs.declared.verdict.Proof.{Proof}
use Rattle.tc_decide.specs.declared.verdict.Proof.TheVariants as proof
use Rattle.tc_decide.specs.declared.verdict.Verdict.{Verdict}
use Rattle.tc_decide.specs.declared.verdict.Verdict.TheVariants.{Safe, Unsafe}
use Rattle.tc_model.specs.Grammars.{Grammar}
use Rattle.tc_model.specs.Safety.{IsSafe}
use Rattle.tc_model.specs.Sheets.{Sheet}
use Rattle.tc_model.specs.Trees.{none}
use Rattle.tc_model.specs.Views.{before, place}
use Rattle.tc_read.specs.Sheets.{IsSheetOf}
use Rattle.tc_read.specs.declared.faults.Reason.{Reason}
use Rattle.tc_read.specs.declared.faults.TextFault.{TextFault}
use Rattle.tc_read.specs.declared.faults.TextFault.TheVariants as text

-- the failure that a fault below is

abbrev pub of_limit : LimitFault → Failure
of_limit (limit.Passes kind number) = Passes (Texts kind) number
of_limit limit.NoMemory = NoMemory

abbrev pub of_text : Which → TextFault → Failure
of_text which (text.Refused reason at) = Refused which reason at
of_text which text.NoMemory = NoMemory

abbrev pub of_close : ℕ → CloseFault → Failure
of_close most close.TooManyTrees = Passes (Rows Trees) most
of_close most close.TooManyHedges = Passes (Rows Hedges) most
of_close most close.TooManyOutputs = Passes (Rows Outputs) MOST_OUTPUTS
of_close most close.NoMemory = NoMemory

abbrev pub of_write : CertWriteFault → Failure
of_write write.TooLong = Passes Certificate LONGEST_CERTIFICATE
of_write write.NoMemory = NoMemory

-- this text is refused, as this relation says, or memory was
abbrev pub IsRefusalOf : Which → (Reason → ℕ → Type 0) → Failure → Type 0
IsRefusalOf which refuses (Refused found reason at) = (found ≡ which) × refuses reason (place at)
IsRefusalOf which refuses (Passes kind number) = ⊥
IsRefusalOf which refuses NoMemory = Unit {0}

-- the texts are those of schemas and a stylesheet that the machine stands for
pub record IsMachineOfTexts (input output : SchemaText) (sheet : List ℕ) (m : Machine) : Type 0 where
  pub i : Grammar
  pub o : Grammar
  pub s : Sheet
  pub input_spells : Spells input i
  pub output_spells : Spells output o
  pub sheet_spells : IsSheetOf sheet s
  pub machine : IsMachineFor i o s m

-- the texts pass a limit that is tried before rows are
pub record ArePassed (input output : SchemaText) (sheet : List ℕ) (kind : Limit) (number : ℕ) : Type 0 where
  pub i : Grammar
  pub o : Grammar
  pub s : Sheet
  pub input_spells : Spells input i
  pub output_spells : Spells output o
  pub sheet_spells : IsSheetOf sheet s
  pub passes : PassesTripleLimit i o s kind number

-- one of the texts is refused, or they pass a limit that is tried before rows are
abbrev pub StopsTexts : SchemaText → SchemaText → List ℕ → Failure → Type 0
StopsTexts input output sheet (Refused which reason at) = IsFirstRefused input output sheet which reason (place at)
StopsTexts input output sheet (Passes (Texts kind) number) = ArePassed input output sheet kind number
StopsTexts input output sheet (Passes _ number) = ⊥
StopsTexts input output sheet NoMemory = Unit {0}

module _ (most : ℕ) (i o : Grammar) (s : Sheet) where
  -- what schemas and a stylesheet decide
  abbrev pub IsFound : Result Verdict Failure → Type 0
  IsFound (Ok (Safe counts)) = KeepsAll i o s most × AreRowCounts i o s counts.trees counts.hedges counts.outputs × IsSafe i o s
  IsFound (Ok (Unsafe document output)) = KeepsAll i o s most × IsLeastCounter i o s (before document none) × IsOutputOf s (before document none) output
  IsFound (Err (Refused which reason at)) = ⊥
  IsFound (Err (Passes kind number)) = PassesFirst i o s most kind number
  IsFound (Err NoMemory) = Unit {0}

  -- what is proved of them
  abbrev pub IsProved : Result Proof Failure → Type 0
  IsProved (Ok (proof.Certified bytes)) = KeepsAll i o s most × IsSafe i o s × HasShortCertificate i o s × IsTextOfLeast i o s bytes.items
  IsProved (Ok (proof.Unsafe document output)) = KeepsAll i o s most × IsLeastCounter i o s (before document none) × IsOutputOf s (before document none) output
  IsProved (Err (Refused which reason at)) = ⊥
  IsProved (Err (Passes kind number)) = PassesInProof i o s most kind number
  IsProved (Err NoMemory) = Unit {0}

-- what is found of the schemas and the stylesheet that texts spell, and which text is refused
pub record IsFoundOfTexts {V : Type 0} (Found : Grammar → Grammar → Sheet → Result V Failure → Type 0) (input output : SchemaText) (sheet : List ℕ) (result : Result V Failure) : Type 0 where
  pub refusal : TellsRefusal input output sheet result
  pub found : (i o : Grammar) (s : Sheet) → Spells input i → Spells output o → IsSheetOf sheet s → Found i o s result
