-- Laws of what stylesheets mean: one rule for each node, one thing put out on it, and what follows for safety.
use Rattle.std.specs.Prelude.{◌≡◌, ◌<ℤ◌, ◌≤ℤ◌, ℕ, List, ◌∷◌, ◌++◌, true, Some, None, All}
use Rattle.tc_model.specs.Trees.{Trees}
use Rattle.tc_model.specs.Grammars.{Grammar}
use Rattle.tc_model.specs.Validity.{IsValid, IsValidOutput}
use Rattle.tc_model.specs.Chains.{Chain}
use Rattle.tc_model.specs.Sheets.{Rule, Sheet}
use Rattle.tc_model.specs.Outcomes.{Outcome}
use Rattle.tc_model.specs.Paths.{fits}
use Rattle.tc_model.specs.Meaning.{Job, by_mode, by_body, rule_of}
use Rattle.tc_model.specs.WellFormed.{IsBody, IsSheet}
use Rattle.tc_model.specs.Safety.{Instantiates, IsResultOf, IsSafe, IsCounterexample}

-- a rule of the mode that fits the node
abbrev pub IsCandidate : ℕ → Chain → Rule → Type 0
IsCandidate m c r = (r.mode ≡ m) × (fits r.pattern c ≡ true)

-- the rule of a node is a candidate whose priority no earlier candidate surpasses and no later one reaches (XSLT, 5.5)
abbrev pub IsLastOfGreatest : Type 0
IsLastOfGreatest =
    (m : ℕ) (c : Chain) (earlier later : List Rule) (r : Rule)
    → IsCandidate m c r
    → All (λ q. IsCandidate m c q → q.priority ≤ℤ r.priority) earlier
    → All (λ q. IsCandidate m c q → q.priority <ℤ r.priority) later
    → rule_of (earlier ++ (r ∷ later)) m c ≡ Some r

-- and without a candidate there is none
abbrev pub IsNoneWithout : Type 0
IsNoneWithout = (m : ℕ) (c : Chain) (rules : List Rule) → All (λ q. ¬ (IsCandidate m c q)) rules → rule_of rules m c ≡ None

-- a mode, be there rules in it or not, or a body that is well-formed in the sheet
abbrev pub IsJob : Sheet → Job → Type 0
IsJob s (by_mode m) = Unit {0}
IsJob s (by_body b) = IsBody s b

-- no two things are put out
abbrev pub IsUnique : Type 0
IsUnique = (s : Sheet) (j : Job) (c : Chain) (x y : Outcome) → Instantiates s j c x → Instantiates s j c y → x ≡ y

-- something is
abbrev pub IsTotal : Type 0
IsTotal = (s : Sheet) → IsSheet s → (j : Job) → IsJob s j → (c : Chain) → (outcome : Outcome) × Instantiates s j c outcome

-- each document has a result, and no other
abbrev pub HasOneResult : Type 0
HasOneResult = (s : Sheet) → IsSheet s → (doc : Trees) → (result : Trees) × IsResultOf s doc result × ((other : Trees) → IsResultOf s doc other → other ≡ result)

-- by a safe stylesheet, whatever a valid document results in is valid
abbrev pub HasValidResults : Type 0
HasValidResults = (input output : Grammar) (s : Sheet) → IsSafe input output s → (doc result : Trees) → IsValid input doc → IsResultOf s doc result → IsValidOutput output result

-- so it has no counterexample
abbrev pub HasNoCounterexample : Type 0
HasNoCounterexample = (input output : Grammar) (s : Sheet) → IsSafe input output s → (doc result : Trees) → ¬ (IsCounterexample input output s doc result)

-- and a well-formed one is safe where whatever a valid document results in is valid
abbrev pub IsSafeByResults : Type 0
IsSafeByResults =
    (input output : Grammar) (s : Sheet) → IsSheet s
    → ((doc result : Trees) → IsValid input doc → IsResultOf s doc result → IsValidOutput output result)
    → IsSafe input output s
