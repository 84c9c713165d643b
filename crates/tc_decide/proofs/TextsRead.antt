-- What the texts of two schemas and a stylesheet lead to.
use Rattle.std.proofs.Common.{◌≡◌, ℕ, List, refl, sym, subst, Result, Ok, Err}
use Rattle.std.specs.Result.{IsErrAnd}
use Rattle.tc_beh.specs.declared.machine.Machine.{Machine}
use Rattle.tc_decide.specs.Checking.{PassesTripleLimit}
use Rattle.tc_decide.specs.MachinesSeen.{IsReadOf, IsMachineFor, IsCauseBy}
use Rattle.tc_decide.specs.Texts.{Spells, IsRefused, IsSchemaOf}
use Rattle.tc_decide.specs.TextsSeen.{of_limit, of_text, IsRefusalOf, IsMachineOfTexts, StopsTexts}
use Rattle.tc_decide.specs.declared.failure.Failure.{Failure}
use Rattle.tc_decide.specs.declared.failure.Failure.TheVariants.{Refused, Passes, NoMemory}
use Rattle.tc_decide.specs.declared.failure.Which.{Which}
use Rattle.tc_decide.specs.declared.failure.Which.TheVariants as which
use Rattle.tc_decide.specs.declared.machine.LimitFault.{LimitFault}
use Rattle.tc_decide.specs.declared.machine.LimitFault.TheVariants as limit
use Rattle.tc_decide.specs.declared.schemas.SchemaText.{SchemaText}
use Rattle.tc_decide.proofs.SchemaTexts.{read_of}
use Rattle.tc_model.specs.Grammars.{Grammar}
use Rattle.tc_model.specs.Sheets.{Sheet}
use Rattle.tc_read.specs.Faults.{IsUnaccepted}
use Rattle.tc_read.specs.Refusals.{IsRefusedSheet}
use Rattle.tc_read.specs.Sheets.{IsSheetOf}
use Rattle.tc_read.specs.declared.faults.Reason.{Reason}
use Rattle.tc_read.specs.declared.faults.TextFault.{TextFault}
use Rattle.tc_read.specs.declared.faults.TextFault.TheVariants as text
use Rattle.tc_read.specs.declared.schemas.Schema.{Schema}

-- what leaves a function by a `?` is that failure
pub err_whole : {T E : Type 0} (r : Result T E) (e : E) (P : Result T E → Type 0) → IsErrAnd r (λ y. y ≡ e) → P (Err e) → P r
err_whole (Ok x) e P h p = absurd h
err_whole (Err y) e P h p = subst (λ w. P (Err w)) (sym h) p

-- a text that isn't accepted is refused
pub refusal : (which : Which) (refuses : Reason → ℕ → Type 0) (fault : TextFault) → IsUnaccepted refuses fault → IsRefusalOf which refuses (of_text which fault)
refusal which refuses (text.Refused reason at) h = (refl, h)
refusal which refuses text.NoMemory h = tt

module _ (input output : SchemaText) (sheet : List ℕ) where
  pub by_input : (e : Failure) → IsRefusalOf which.Input (IsRefused input) e → StopsTexts input output sheet e
  by_input (Refused found reason at) (same, r) = subst (λ w. StopsTexts input output sheet (Refused w reason at)) (sym same) r
  by_input (Passes kind number) r = absurd r
  by_input NoMemory r = tt

  module _ (x : Schema) (one : IsSchemaOf input x) where
    read_input : (i : Grammar) × Spells input i × IsReadOf i x
    read_input = read_of (Spells input) x one

    pub by_output : (e : Failure) → IsRefusalOf which.Output (IsRefused output) e → StopsTexts input output sheet e
    by_output (Refused found reason at) (same, r) =
        subst (λ w. StopsTexts input output sheet (Refused w reason at)) (sym same) ((read_input.0, read_input.1), r)
    by_output (Passes kind number) r = absurd r
    by_output NoMemory r = tt

    module _ (y : Schema) (other : IsSchemaOf output y) where
      read_output : (o : Grammar) × Spells output o × IsReadOf o y
      read_output = read_of (Spells output) y other

      pub by_sheet : (e : Failure) → IsRefusalOf which.Sheet (IsRefusedSheet sheet) e → StopsTexts input output sheet e
      by_sheet (Refused found reason at) (same, r) =
          subst (λ w. StopsTexts input output sheet (Refused w reason at)) (sym same) ((read_input.0, read_input.1), (read_output.0, read_output.1), r)
      by_sheet (Passes kind number) r = absurd r
      by_sheet NoMemory r = tt

      module _ (s : Sheet) (spells : IsSheetOf sheet s) where
        pub machine_of_all : (m : Machine) → ((i o : Grammar) → IsReadOf i x → IsReadOf o y → IsMachineFor i o s m) → IsMachineOfTexts input output sheet m
        machine_of_all m made = record {
          i = read_input.0;
          o = read_output.0;
          s = s;
          input_spells = read_input.1;
          output_spells = read_output.1;
          sheet_spells = spells;
          machine = made read_input.0 read_output.0 read_input.2 read_output.2;
        }

        pub passed_by_all : (e : LimitFault) → ((i o : Grammar) → IsReadOf i x → IsReadOf o y → IsCauseBy (PassesTripleLimit i o s) e) → StopsTexts input output sheet (of_limit e)
        passed_by_all (limit.Passes kind number) passes = record {
          i = read_input.0;
          o = read_output.0;
          s = s;
          input_spells = read_input.1;
          output_spells = read_output.1;
          sheet_spells = spells;
          passes = passes read_input.0 read_output.0 read_input.2 read_output.2;
        }
        passed_by_all limit.NoMemory passes = tt
