-- What is told of a document decides: each judgement and each failure by its cause; and it is so of texts.
use Rattle.std.proofs.Common.{◌≡◌, ◌≤◌, ◌⊎◌, ◌∙◌, inl, inr, refl, sym, subst, ℕ, List, Ok, Err, arith}
use Rattle.tc_auto.specs.Stands as a
use Rattle.tc_auto.specs.declared.auto.Auto.{Auto}
use Rattle.tc_base.specs.declared.Limit.{Limit}
use Rattle.tc_base.specs.declared.limits.TheConstants.{MOST_INPUT_STATES}
use Rattle.tc_decide.specs.Limits.{IsValidityWithin, IsWithinLimits, AreFew, symbols_of_schema}
use Rattle.tc_decide.specs.MachinesSeen.{IsLawful, IsReadOf, IsCauseBy}
use Rattle.tc_decide.specs.Texts.{Spells, IsRefused}
use Rattle.tc_decide.specs.TextsSeen.{of_limit, IsRefusalOf}
use Rattle.tc_decide.specs.Validating.{PassesValidity, passes_schema, passes_symbols, Judgement, AreRead, TellsRefusalOfDocument, DecidesValidity, TellsValidityLimit}
use Rattle.tc_decide.specs.ValidatingSeen.{IsSchemaParts, TellsOfTree, TellsOfText, IsFoundOfDocument}
use Rattle.tc_decide.specs.declared.failure.Failure.{Failure}
use Rattle.tc_decide.specs.declared.failure.Failure.TheVariants.{Refused, Passes, NoMemory}
use Rattle.tc_decide.specs.declared.failure.Kind.TheVariants.{Texts, Rows, Nodes, Certificate, Work, Open, Pieces}
use Rattle.tc_decide.specs.declared.failure.Which.TheVariants as which
use Rattle.tc_decide.specs.declared.machine.LimitFault.{LimitFault}
use Rattle.tc_decide.specs.declared.machine.LimitFault.TheVariants as limit
use Rattle.tc_decide.specs.declared.schemas.SchemaText.{SchemaText}
use Rattle.tc_decide.specs.declared.validating.SchemaParts.{SchemaParts}
use Rattle.tc_decide.proofs.Documents.{no_document, one_document}
use Rattle.tc_decide.proofs.MachineLimits.{lawful}
use Rattle.tc_decide.proofs.Passing.{over_schema}
use Rattle.tc_decide.proofs.SchemaTexts.{one_schema, no_schema}
use Rattle.tc_model.specs.Grammars.{Grammar}
use Rattle.tc_model.specs.States.{input}
use Rattle.tc_model.specs.Symbols.{Mention}
use Rattle.tc_model.specs.Trees.{Trees}
use Rattle.tc_model.specs.Views as see
use Rattle.tc_model.proofs.SchemaStates.{state_counts_agree}
use Rattle.tc_print.specs.ReadBack.{IsReadAs}
use Rattle.tc_read.specs.Refusals.{IsRefusedDocument}
use Rattle.tc_read.specs.declared.schemas.Schema.{Schema}

pub is_parts : (x : Grammar) (s : Schema) → IsLawful s → IsReadOf x s → IsWithinLimits x input MOST_INPUT_STATES → (automaton : Auto) (symbols : List Mention) → a.Stands input x automaton
    → symbols ≡ symbols_of_schema x → AreFew symbols → IsSchemaParts x (record { automaton = automaton; alphabet = symbols })
is_parts x s spelled read within automaton symbols stands same few = record {
  within_limits = record { schema = within; symbols = subst AreFew same few };
  start = (lawful x s spelled read within.counts).1;
  automaton = stands;
  symbols = same;
}

-- the automaton has as many states as a schema may have
pub few_states : (x : Grammar) (parts : SchemaParts) → IsSchemaParts x parts → a.states parts.automaton ≤ MOST_INPUT_STATES
few_states x parts is = subst (λ n. n ≤ MOST_INPUT_STATES) (sym (is.automaton.built.counted ∙ (state_counts_agree x).0)) is.within_limits.schema.states

-- a limit that is passed isn't kept
pub not_within : {x : Grammar} {kind : Limit} {number : ℕ} → PassesValidity x kind number → IsValidityWithin x → ⊥
not_within (passes_schema p) w = over_schema p w.schema
not_within (passes_symbols v p) w = omega (arith, p, w.symbols)

module _ (x : Grammar) (d : Trees) where
  pub valid_decides : (judgement : Judgement) → TellsOfTree x d judgement → (judgement ≡ Err NoMemory) ⊎ DecidesValidity x d judgement
  valid_decides (Ok valid) (w, exact) = inr (record {
    yes = (λ t. (w, exact.0 t), λ v. exact.1 v.1);
    no = (λ n. (w, λ v. n (exact.1 v)), λ v t. v.1 (exact.0 t));
    limit = (λ e. absurd e, λ (kind, number, p). absurd (not_within p w));
  })
  valid_decides (Err (Refused which reason at)) f = absurd f
  valid_decides (Err (Passes (Texts kind) number)) p = inr (record {
    yes = (λ e. absurd e, λ v. absurd (not_within p v.0));
    no = (λ e. absurd e, λ v. absurd (not_within p v.0));
    limit = (λ _. (kind, number, p), λ _. tt);
  })
  valid_decides (Err (Passes (Rows count) number)) f = absurd f
  valid_decides (Err (Passes Nodes number)) f = absurd f
  valid_decides (Err (Passes Certificate number)) f = absurd f
  valid_decides (Err (Passes Work number)) f = absurd f
  valid_decides (Err (Passes Open number)) f = absurd f
  valid_decides (Err (Passes (Pieces measure) number)) f = absurd f
  valid_decides (Err NoMemory) f = inl refl

  limits_of_tree : (judgement : Judgement) → TellsOfTree x d judgement → TellsValidityLimit x judgement
  limits_of_tree (Ok valid) f = tt
  limits_of_tree (Err (Refused which reason at)) f = tt
  limits_of_tree (Err (Passes (Texts kind) number)) f = f
  limits_of_tree (Err (Passes (Rows count) number)) f = absurd f
  limits_of_tree (Err (Passes Nodes number)) f = absurd f
  limits_of_tree (Err (Passes Certificate number)) f = absurd f
  limits_of_tree (Err (Passes Work number)) f = absurd f
  limits_of_tree (Err (Passes Open number)) f = absurd f
  limits_of_tree (Err (Passes (Pieces measure) number)) f = absurd f
  limits_of_tree (Err NoMemory) f = tt

  -- what is told of a tree that a text means
  pub of_tree : (bytes : List ℕ) (judgement : Judgement) → IsReadAs bytes d → TellsOfTree x d judgement → TellsOfText x bytes judgement
  of_tree bytes (Ok valid) read t = (d, read, t)
  of_tree bytes (Err (Refused which reason at)) read t = absurd t
  of_tree bytes (Err (Passes kind number)) read t = (d, read, t)
  of_tree bytes (Err NoMemory) read t = tt

-- a limit that a schema passes
pub limit_told : (x : Grammar) (bytes : List ℕ) (d : Trees) (e : LimitFault) → IsReadAs bytes d → IsCauseBy (PassesValidity x) e → TellsOfText x bytes (Err (of_limit e))
limit_told x bytes d (limit.Passes kind number) read h = (d, read, h)
limit_told x bytes d limit.NoMemory read h = tt

-- a text that is refused
pub refused_text : (x : Grammar) (bytes : List ℕ) (e : Failure) → IsRefusalOf which.Document (IsRefusedDocument bytes) e → TellsOfText x bytes (Err e)
refused_text x bytes (Refused found reason at) r = r
refused_text x bytes (Passes kind number) r = absurd r
refused_text x bytes NoMemory r = tt

module _ (schema : SchemaText) (document : List ℕ) where
  told_at : (judgement : Judgement) {x y : Grammar} {d e : Trees} → x ≡ y → d ≡ e → TellsOfTree x d judgement → TellsOfTree y e judgement
  told_at judgement {x} {y} {d} {e} p q t = subst (λ (w : Trees). TellsOfTree y w judgement) q (subst (λ (w : Grammar). TellsOfTree w d judgement) p t)

  of_both : (x : Grammar) (d : Trees) (judgement : Judgement) → Spells schema x → IsReadAs document d → TellsRefusalOfDocument schema document judgement → TellsOfTree x d judgement → IsFoundOfDocument schema document judgement
  of_both x d judgement s r refusal t = record { refusal = refusal; found = λ y e a b. told_at judgement (one_schema schema x y s a) (one_document r b) t }

  pub of_text : (x : Grammar) (judgement : Judgement) → Spells schema x → TellsOfText x document judgement → IsFoundOfDocument schema document judgement
  of_text x (Ok valid) s (d, r, t) = of_both x d (Ok valid) s r ((x, s), (d, r)) t
  of_text x (Err (Passes kind number)) s (d, r, t) = of_both x d (Err (Passes kind number)) s r ((x, s), (d, r)) t
  of_text x (Err (Refused found reason at)) s (same, r) =
      subst (λ w. IsFoundOfDocument schema document (Err (Refused w reason at))) (sym same) (record { refusal = ((x, s), r); found = λ y d a b. absurd (no_document reason (see.place at) r b) })
  of_text x (Err NoMemory) s t = record { refusal = tt; found = λ y d a b. tt }

  pub schema_stops : (e : Failure) → IsRefusalOf which.Input (IsRefused schema) e → IsFoundOfDocument schema document (Err e)
  schema_stops (Refused found reason at) (same, r) =
      subst (λ w. IsFoundOfDocument schema document (Err (Refused w reason at))) (sym same) (record { refusal = r; found = λ y d a b. absurd (no_schema schema y reason (see.place at) r a) })
  schema_stops (Passes kind number) r = absurd r
  schema_stops NoMemory r = record { refusal = tt; found = λ y d a b. tt }

  pub valid_limits : (judgement : Judgement) → IsFoundOfDocument schema document judgement → (x : Grammar) → Spells schema x → TellsValidityLimit x judgement
  valid_limits (Ok valid) f x s = tt
  valid_limits (Err (Refused which reason at)) f x s = tt
  valid_limits (Err (Passes kind number)) f x s = let (spelled, (d, r)) = f.refusal in limits_of_tree x d (Err (Passes kind number)) (f.found x d s r)
  valid_limits (Err NoMemory) f x s = tt
