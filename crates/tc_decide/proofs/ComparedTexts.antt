-- What is found of two schemas is found of their texts.
use Rattle.std.proofs.Common.{◌≡◌, ℕ, subst, sym, Result, Ok, Err}
use Rattle.tc_base.specs.declared.Limit as kinds
use Rattle.tc_decide.specs.Comparing.{PassesPairLimit, AreSpelled, TellsRefusalOfPair}
use Rattle.tc_decide.specs.ComparingSeen.{IsPairOf, FindsInclusion, FindsEquality, IsPairOfTexts, StopsPair, IsFoundOfPair}
use Rattle.tc_decide.specs.MachinesSeen.{IsReadOf, IsCauseBy}
use Rattle.tc_decide.specs.Texts.{Spells, IsRefused, IsSchemaOf}
use Rattle.tc_decide.specs.TextsSeen.{of_limit, IsRefusalOf}
use Rattle.tc_decide.specs.declared.comparing.Pair.{Pair}
use Rattle.tc_decide.specs.declared.failure.Failure.{Failure}
use Rattle.tc_decide.specs.declared.failure.Failure.TheVariants.{Refused, Passes, NoMemory}
use Rattle.tc_decide.specs.declared.failure.Kind.TheVariants.{Texts, Rows, Nodes, Certificate, Work, Open, Pieces}
use Rattle.tc_decide.specs.declared.failure.Which.{Which}
use Rattle.tc_decide.specs.declared.failure.Which.TheVariants as which
use Rattle.tc_decide.specs.declared.machine.LimitFault.{LimitFault}
use Rattle.tc_decide.specs.declared.machine.LimitFault.TheVariants as limit
use Rattle.tc_decide.specs.declared.schemas.SchemaText.{SchemaText}
use Rattle.tc_decide.proofs.SchemaTexts.{one_schema, no_schema, read_of}
use Rattle.tc_model.specs.Grammars.{Grammar}
use Rattle.tc_model.specs.Views as see
use Rattle.tc_read.specs.declared.faults.Reason.{Reason}
use Rattle.tc_read.specs.declared.schemas.Schema.{Schema}

-- no refusal is found of schemas, and each limit is that they pass before rows are tried
pub record FindsPairLimits {V : Type 0} (Found : Grammar → Grammar → Result V Failure → Type 0) : Type 0 where
  pub refused : (a b : Grammar) (which : Which) (reason : Reason) (at : _) → Found a b (Err (Refused which reason at)) → ⊥
  pub passed : (a b : Grammar) (kind : kinds.Limit) (number : ℕ) → PassesPairLimit a b kind number → Found a b (Err (Passes (Texts kind) number))
  pub memory : (a b : Grammar) → Found a b (Err NoMemory)

pub inclusion_texts : FindsPairLimits FindsInclusion
inclusion_texts = record { refused = λ a b which reason at h. h; passed = λ a b kind number p. p; memory = λ a b. tt }

pub equality_texts : FindsPairLimits FindsEquality
equality_texts = record { refused = λ a b which reason at h. h; passed = λ a b kind number p. p; memory = λ a b. tt }

module _ {V : Type 0} (Found : Grammar → Grammar → Result V Failure → Type 0) (finds : FindsPairLimits Found) (first second : SchemaText) where
  -- what is found of equal schemas
  found_at : (result : Result V Failure) {a b x y : Grammar} → a ≡ x → b ≡ y → Found a b result → Found x y result
  found_at result {a} {b} {x} {y} p q f = subst (λ (w : Grammar). Found x w result) q (subst (λ (w : Grammar). Found w b result) p f)

  -- whoever finds something has accepted the texts
  tells : (a b : Grammar) (result : Result V Failure) → AreSpelled first second → Found a b result → TellsRefusalOfPair first second result
  tells a b (Ok verdict) are f = are
  tells a b (Err (Refused which reason at)) are f = absurd (finds.refused a b which reason at f)
  tells a b (Err (Passes kind number)) are f = are
  tells a b (Err NoMemory) are f = tt

  of_these : (a b : Grammar) (result : Result V Failure) → Spells first a → Spells second b → Found a b result → IsFoundOfPair Found first second result
  of_these a b result p q f = record {
    refusal = tells a b result ((a, p), (b, q)) f;
    found = λ x y r s. found_at result (one_schema first a x p r) (one_schema second b y q s) f;
  }

  -- what the automata of the texts find
  pub by_pair : (pair : Pair) (result : Result V Failure) (texts : IsPairOfTexts first second pair) → Found texts.a texts.b result → IsFoundOfPair Found first second result
  by_pair pair result texts f = of_these texts.a texts.b result texts.first_spells texts.second_spells f

  -- what stops the texts
  pub stopped : (failure : Failure) → StopsPair first second failure → IsFoundOfPair Found first second (Err failure)
  stopped (Passes (Texts kind) number) p = of_these p.a p.b (Err (Passes (Texts kind) number)) p.first_spells p.second_spells (finds.passed p.a p.b kind number p.passes)
  stopped (Passes (Rows count) number) p = absurd p
  stopped (Passes Nodes number) p = absurd p
  stopped (Passes Certificate number) p = absurd p
  stopped (Passes Work number) p = absurd p
  stopped (Passes Open number) p = absurd p
  stopped (Passes (Pieces measure) number) p = absurd p
  stopped (Refused which.Input reason at) r = record { refusal = r; found = λ a b p q. absurd (no_schema first a reason (see.place at) r p) }
  stopped (Refused which.Output reason at) r = record { refusal = r; found = λ a b p q. absurd (no_schema second b reason (see.place at) r.1 q) }
  stopped (Refused which.Sheet reason at) r = absurd r
  stopped (Refused which.Document reason at) r = absurd r
  stopped NoMemory r = record { refusal = tt; found = λ a b p q. finds.memory a b }

module _ (first second : SchemaText) where
  pub by_input : (e : Failure) → IsRefusalOf which.Input (IsRefused first) e → StopsPair first second e
  by_input (Refused found reason at) (same, r) = subst (λ w. StopsPair first second (Refused w reason at)) (sym same) r
  by_input (Passes kind number) r = absurd r
  by_input NoMemory r = tt

  module _ (x : Schema) (one : IsSchemaOf first x) where
    read_first : (a : Grammar) × Spells first a × IsReadOf a x
    read_first = read_of (Spells first) x one

    pub by_output : (e : Failure) → IsRefusalOf which.Output (IsRefused second) e → StopsPair first second e
    by_output (Refused found reason at) (same, r) = subst (λ w. StopsPair first second (Refused w reason at)) (sym same) ((read_first.0, read_first.1), r)
    by_output (Passes kind number) r = absurd r
    by_output NoMemory r = tt

    module _ (y : Schema) (other : IsSchemaOf second y) where
      read_second : (b : Grammar) × Spells second b × IsReadOf b y
      read_second = read_of (Spells second) y other

      pub pair_of_all : (pair : Pair) → ((a b : Grammar) → IsReadOf a x → IsReadOf b y → IsPairOf a b pair) → IsPairOfTexts first second pair
      pair_of_all pair made = record {
        a = read_first.0;
        b = read_second.0;
        first_spells = read_first.1;
        second_spells = read_second.1;
        is = made read_first.0 read_second.0 read_first.2 read_second.2;
      }

      pub passed_by_both : (e : LimitFault) → ((a b : Grammar) → IsReadOf a x → IsReadOf b y → IsCauseBy (PassesPairLimit a b) e) → StopsPair first second (of_limit e)
      passed_by_both (limit.Passes kind number) passes = record {
        a = read_first.0;
        b = read_second.0;
        first_spells = read_first.1;
        second_spells = read_second.1;
        passes = passes read_first.0 read_second.0 read_first.2 read_second.2;
      }
      passed_by_both limit.NoMemory passes = tt
