-- What a run gives decides: a result and each failure by its cause, and the causes exclude one another; and it is so of their texts.
use Rattle.std.proofs.Common.{◌≡◌, ◌⊎◌, inl, inr, refl, sym, subst, ℕ, List, Result, Ok, Err}
use Rattle.std.specs.Prelude.{IfOk}
use Rattle.std.specs.Global.{Vec}
use Rattle.tc_base.specs.declared.Limit as kinds
use Rattle.tc_decide.specs.Limits.{symbols_of_sheet, IsWithinSheetLimits, SheetPasses, IsRunWithin}
use Rattle.tc_decide.specs.MachinesSeen.{IsCauseBy}
use Rattle.tc_decide.specs.Running.{AreRunAccepted, TellsRefusalOfRun, PassesRun, DecidesRun, TellsRunLimit}
use Rattle.tc_decide.specs.RunningSeen.{of_run, IsRun, IsFoundOfRun}
use Rattle.tc_decide.specs.TextsSeen.{of_limit, IsRefusalOf}
use Rattle.tc_decide.specs.declared.failure.Failure.{Failure}
use Rattle.tc_decide.specs.declared.failure.Failure.TheVariants.{Refused, Passes, NoMemory}
use Rattle.tc_decide.specs.declared.failure.Kind.{Kind}
use Rattle.tc_decide.specs.declared.failure.Kind.TheVariants.{Texts, Rows, Nodes, Certificate, Work, Open, Pieces}
use Rattle.tc_decide.specs.declared.failure.Which.{Which}
use Rattle.tc_decide.specs.declared.failure.Which.TheVariants as which
use Rattle.tc_decide.specs.declared.machine.LimitFault.{LimitFault}
use Rattle.tc_decide.specs.declared.machine.LimitFault.TheVariants as limit
use Rattle.tc_decide.proofs.Documents.{no_document, one_document}
use Rattle.tc_decide.proofs.Passing.{over_sheet}
use Rattle.tc_decide.proofs.Sheets.{no_sheet, one_sheet_of, over_work, over_open}
use Rattle.tc_model.specs.Sheets.{Sheet}
use Rattle.tc_model.specs.Trees.{Trees}
use Rattle.tc_model.specs.Views as see
use Rattle.tc_print.specs.ReadBack.{IsReadAs}
use Rattle.tc_read.specs.Refusals.{IsRefusedDocument, IsRefusedSheet}
use Rattle.tc_read.specs.Sheets.{IsSheetOf}
use Rattle.tc_read.specs.declared.faults.Reason.{Reason}
use Rattle.tc_run.specs.Limits.{IsCause, IsTextOfResult}
use Rattle.tc_run.specs.declared.RunFault.{RunFault}
use Rattle.tc_run.specs.declared.RunFault.TheVariants as fault

module _ (s : Sheet) (d : Trees) where
  -- a limit that is passed isn't kept
  not_within : (kind : Kind) (number : ℕ) → PassesRun s d kind number → IsRunWithin s d → ⊥
  not_within (Texts kind) number p w = over_sheet p w.sheet
  not_within Work number (within, (o, t, p), same) w = over_work s d o t p w.keeps
  not_within Open number (within, (o, t, p), same) w = over_open s d o t p w.keeps
  not_within (Rows count) number p w = absurd p
  not_within Nodes number p w = absurd p
  not_within Certificate number p w = absurd p
  not_within (Pieces measure) number p w = absurd p

  pub run_decides : (answer : Result (Vec ℕ) Failure) → IsRun s d answer → (answer ≡ Err NoMemory) ⊎ DecidesRun s d answer
  run_decides (Ok given) (w, r) = inr (record { yes = (λ _. w, λ _. tt); limit = (λ e. absurd e, λ (kind, number, p). absurd (not_within kind number p w)) })
  run_decides (Err (Refused which reason at)) f = absurd f
  run_decides (Err (Passes kind number)) p = inr (record { yes = (λ e. absurd e, λ w. absurd (not_within kind number p w)); limit = (λ _. (kind, number, p), λ _. tt) })
  run_decides (Err NoMemory) f = inl refl

  pub gives : (answer : Result (Vec ℕ) Failure) → IsRun s d answer → IfOk answer (λ text. IsTextOfResult s d text.items)
  gives (Ok given) f = f.1
  gives (Err failure) f = tt

  pub limits : (answer : Result (Vec ℕ) Failure) → IsRun s d answer → TellsRunLimit s d answer
  limits (Ok given) f = tt
  limits (Err (Refused which reason at)) f = absurd f
  limits (Err (Passes kind number)) f = f
  limits (Err NoMemory) f = tt

  -- what stops a run
  pub stopped_by : (e : LimitFault) → IsCauseBy (SheetPasses (symbols_of_sheet s) s) e → IsRun s d (Err (of_limit e))
  stopped_by (limit.Passes kind number) h = h
  stopped_by limit.NoMemory h = tt

  pub broken_by : IsWithinSheetLimits (symbols_of_sheet s) s → (e : RunFault) → IsCause s d e → IsRun s d (Err (of_run e))
  broken_by w fault.TooMuchWork (o, t, p) = (w, (o, t, p), refl)
  broken_by w fault.TooOpen (o, t, p) = (w, (o, t, p), refl)
  broken_by w fault.NoMemory h = tt

module _ (sheet document : List ℕ) where
  -- what is given of equal stylesheets and documents
  found_at : (answer : Result (Vec ℕ) Failure) {s z : Sheet} {d e : Trees} → s ≡ z → d ≡ e → IsRun s d answer → IsRun z e answer
  found_at answer {s} {z} {d} {e} a b x = subst (λ (w : Trees). IsRun z w answer) b (subst (λ (w : Sheet). IsRun w d answer) a x)

  -- whoever gives something has accepted the texts
  tells : (s : Sheet) (d : Trees) (answer : Result (Vec ℕ) Failure) → AreRunAccepted sheet document → IsRun s d answer → TellsRefusalOfRun sheet document answer
  tells s d (Ok given) a f = a
  tells s d (Err (Refused which reason at)) a f = absurd f
  tells s d (Err (Passes kind number)) a f = a
  tells s d (Err NoMemory) a f = tt

  pub found_of_run : (s : Sheet) (d : Trees) (answer : Result (Vec ℕ) Failure) → IsSheetOf sheet s → IsReadAs document d → IsRun s d answer → IsFoundOfRun sheet document answer
  found_of_run s d answer a b f = record {
    refusal = tells s d answer (record { sheet_spells = (s, a); document_spells = (d, b) }) f;
    found = λ z e x y. found_at answer (one_sheet_of a x) (one_document b y) f;
  }

  -- a text that is refused
  pub sheet_stops : (e : Failure) → IsRefusalOf which.Sheet (IsRefusedSheet sheet) e → IsFoundOfRun sheet document (Err e)
  sheet_stops (Refused found reason at) (same, r) =
      subst (λ w. IsFoundOfRun sheet document (Err (Refused w reason at))) (sym same) (record { refusal = r; found = λ s d a b. absurd (no_sheet reason (see.place at) r a) })
  sheet_stops (Passes kind number) r = absurd r
  sheet_stops NoMemory r = record { refusal = tt; found = λ s d a b. tt }

  pub document_stops : (s : Sheet) → IsSheetOf sheet s → (e : Failure) → IsRefusalOf which.Document (IsRefusedDocument document) e → IsFoundOfRun sheet document (Err e)
  document_stops s spells (Refused found reason at) (same, r) =
      subst (λ w. IsFoundOfRun sheet document (Err (Refused w reason at))) (sym same)
      (record { refusal = ((s, spells), r); found = λ z d a b. absurd (no_document reason (see.place at) r b) })
  document_stops s spells (Passes kind number) r = absurd r
  document_stops s spells NoMemory r = record { refusal = tt; found = λ z d a b. tt }
