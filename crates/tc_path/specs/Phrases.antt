-- Parts of phrases that functions read.
use Rattle.std.specs.Prelude.{◌≡◌, ℤ, MatchBool, Bool, true, false, List, ◌∷◌}
use Rattle.tc_model.specs.RawTrees.{Bound}
use Rattle.tc_model.specs.Sheets.{NodeTest, Steps, no_step, step, Test, Tests, no_test, test}
use Rattle.tc_model.specs.PathTextTokens.{Mark, Token, mark, slash, slashes}
use Rattle.tc_model.specs.PathTextPhrases.{ChildAt, PredicatesAt, AlternativeAt, AttributesAlternativeAt, OrAt, Lacks, Form, lone, longer, conjunction, disjunction, default_priority, priority_otherwise}

-- whether there is no predicate
abbrev pub is_lone : Tests → Bool
is_lone no_test = true
is_lone (test t us) = false

-- a node test of the child axis with its predicates: one step, and whether it is a node test alone
pub data IsStepAt (scope : List Bound) (deep : Bool) : List Token → Steps → Bool → List Token → Type 0 where
  a_step : {ts rest after : List Token} {t : NodeTest} {us : Tests} → ChildAt scope ts t rest → PredicatesAt scope rest us after
      → IsStepAt scope deep ts (step deep t (conjunction us) no_step) (is_lone us) after

-- the form of one step, which is a node test alone or not
abbrev pub form_of_one : Bool → Form
form_of_one true = lone
form_of_one false = longer

-- a test and this mark behind it
pub record ClosedAt (scope : List Bound) (ts : List Token) (close : Mark) (t : Test) (after : List Token) : Type 0 where
  pub tests : Tests
  pub inside : OrAt scope ts tests (mark close ∷ after)
  pub is_test : t ≡ disjunction tests

-- an alternative of a select, and whether it ends in an attribute step
pub record EndsIn (scope : List Bound) (ts : List Token) (ends : Bool) (after : List Token) : Type 0 where
  pub steps : Steps
  pub form : Form
  pub read : AlternativeAt scope ts steps form after
  pub told : MatchBool ends (AttributesAlternativeAt scope ts after) (AttributesAlternativeAt scope ts after → ⊥)

-- whether an alternative of a pattern begins at the root, whether its first step is deep, and where its steps begin, if it has some
pub data StartsAt : List Token → Bool → Bool → List Token → Type 0 where
  behind_slash : {ts rest : List Token} → ts ≡ mark slash ∷ rest → StartsAt ts true false rest
  behind_slashes : {ts rest : List Token} → ts ≡ mark slashes ∷ rest → StartsAt ts true true rest
  at_once : {ts : List Token} → Lacks (mark slash) ts → Lacks (mark slashes) ts → StartsAt ts false true ts

-- the default priority of steps from the root, or of relative ones
abbrev pub priority_from : Bool → Form → Steps → ℤ
priority_from true f ss = priority_otherwise
priority_from false f ss = default_priority f ss
