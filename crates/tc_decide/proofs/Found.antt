-- What is found of schemas and a stylesheet is found of their texts.
use Rattle.std.proofs.Common.{◌≡◌, ℕ, List, subst, Result, Ok, Err}
use Rattle.tc_base.specs.declared.Limit as kinds
use Rattle.tc_beh.specs.declared.machine.Machine.{Machine}
use Rattle.tc_decide.specs.Checking.{PassesTripleLimit}
use Rattle.tc_decide.specs.Deciding.{AreAccepted, TellsRefusal}
use Rattle.tc_decide.specs.Texts.{Spells}
use Rattle.tc_decide.specs.TextsSeen.{IsMachineOfTexts, StopsTexts, IsFoundOfTexts}
use Rattle.tc_decide.specs.declared.failure.Failure.{Failure}
use Rattle.tc_decide.specs.declared.failure.Failure.TheVariants.{Refused, Passes, NoMemory}
use Rattle.tc_decide.specs.declared.failure.Kind.TheVariants.{Texts, Rows, Nodes, Certificate, Work, Open, Pieces}
use Rattle.tc_decide.specs.declared.failure.Which.{Which}
use Rattle.tc_decide.specs.declared.failure.Which.TheVariants as which
use Rattle.tc_decide.specs.declared.schemas.SchemaText.{SchemaText}
use Rattle.tc_decide.proofs.SchemaTexts.{one_schema, no_schema}
use Rattle.tc_decide.proofs.Sheets.{no_sheet, one_sheet_of}
use Rattle.tc_decide.proofs.Triples.{of_triple}
use Rattle.tc_model.specs.Grammars.{Grammar}
use Rattle.tc_model.specs.Sheets.{Sheet}
use Rattle.tc_model.specs.Views as see
use Rattle.tc_read.specs.Sheets.{IsSheetOf}
use Rattle.tc_read.specs.declared.faults.Reason.{Reason}
use Rattle.tc_rows.specs.Triples as t

-- no refusal is found of schemas and a stylesheet, and each limit is that they pass before rows are tried
pub record FindsLimits {V : Type 0} (Found : Grammar → Grammar → Sheet → Result V Failure → Type 0) : Type 0 where
  pub refused : (i o : Grammar) (s : Sheet) (which : Which) (reason : Reason) (at : _) → Found i o s (Err (Refused which reason at)) → ⊥
  pub passed : (i o : Grammar) (s : Sheet) (kind : kinds.Limit) (number : ℕ) → PassesTripleLimit i o s kind number → Found i o s (Err (Passes (Texts kind) number))
  pub memory : (i o : Grammar) (s : Sheet) → Found i o s (Err NoMemory)

module _ {V : Type 0} (Found : Grammar → Grammar → Sheet → Result V Failure → Type 0) (finds : FindsLimits Found) (input output : SchemaText) (sheet : List ℕ) where
  -- what is found of equal schemas and stylesheets
  found_at : (result : Result V Failure) {i j o p : Grammar} {s z : Sheet} → i ≡ j → o ≡ p → s ≡ z → Found i o s result → Found j p z result
  found_at result {i} {j} {o} {p} {s} {z} a b c x =
      subst (λ (w : Sheet). Found j p w result) c (subst (λ (w : Grammar). Found j w s result) b (subst (λ (w : Grammar). Found w o s result) a x))

  -- whoever finds something has accepted the texts
  tells : (i o : Grammar) (s : Sheet) (result : Result V Failure) → AreAccepted input output sheet → Found i o s result → TellsRefusal input output sheet result
  tells i o s (Ok verdict) a f = a
  tells i o s (Err (Refused which reason at)) a f = absurd (finds.refused i o s which reason at f)
  tells i o s (Err (Passes kind number)) a f = a
  tells i o s (Err NoMemory) a f = tt

  of_these : (i o : Grammar) (s : Sheet) (result : Result V Failure) → Spells input i → Spells output o → IsSheetOf sheet s → Found i o s result → IsFoundOfTexts Found input output sheet result
  of_these i o s result a b c f = record {
    refusal = tells i o s result (record { input_spells = (i, a); output_spells = (o, b); sheet_spells = (s, c) }) f;
    found = λ j p z x y w. found_at result (one_schema input i j a x) (one_schema output o p b y) (one_sheet_of c w) f;
  }

  -- what the machine of the texts finds
  pub by_machine : (m : Machine) (result : Result V Failure) (texts : IsMachineOfTexts input output sheet m)
      → Found texts.machine.triple.input texts.machine.triple.output (t.sheet texts.machine.triple) result → IsFoundOfTexts Found input output sheet result
  by_machine m result texts f =
      of_these texts.i texts.o texts.s result texts.input_spells texts.output_spells texts.sheet_spells (of_triple (λ i o s. Found i o s result) texts.machine.of f)

  -- what stops the texts
  pub stopped : (failure : Failure) → StopsTexts input output sheet failure → IsFoundOfTexts Found input output sheet (Err failure)
  stopped (Passes (Texts kind) number) p =
      of_these p.i p.o p.s (Err (Passes (Texts kind) number)) p.input_spells p.output_spells p.sheet_spells (finds.passed p.i p.o p.s kind number p.passes)
  stopped (Passes (Rows count) number) p = absurd p
  stopped (Passes Nodes number) p = absurd p
  stopped (Passes Certificate number) p = absurd p
  stopped (Passes Work number) p = absurd p
  stopped (Passes Open number) p = absurd p
  stopped (Passes (Pieces measure) number) p = absurd p
  stopped (Refused which.Document reason at) r = absurd r
  stopped (Refused which.Input reason at) r = record { refusal = r; found = λ i o s a b c. absurd (no_schema input i reason (see.place at) r a) }
  stopped (Refused which.Output reason at) r = record { refusal = r; found = λ i o s a b c. absurd (no_schema output o reason (see.place at) r.1 b) }
  stopped (Refused which.Sheet reason at) r = record { refusal = r; found = λ i o s a b c. absurd (no_sheet reason (see.place at) r.2 c) }
  stopped NoMemory r = record { refusal = tt; found = λ i o s a b c. finds.memory i o s }
