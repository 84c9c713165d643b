-- The result of a stylesheet, and its safety between two schemas.
use Rattle.std.specs.Prelude.{◌≡◌}
use Rattle.tc_model.specs.Trees.{Trees, normal_form}
use Rattle.tc_model.specs.Grammars.{Grammar}
use Rattle.tc_model.specs.Validity.{IsValid, IsValidOutput}
use Rattle.tc_model.specs.Sheets.{Sheet}
use Rattle.tc_model.specs.Chains.{Chain, top}
use Rattle.tc_model.specs.Outcomes.{Outcome, counted}
use Rattle.tc_model.specs.Meaning.{Job, by_mode, body_of, Does}

-- what a stylesheet does on a node in a mode, or by the body of a for-each (XSLT, 5.1)
abbrev pub Instantiates : Sheet → Job → Chain → Outcome → Type 0
Instantiates s j c outcome = (inner : Outcome) × Does s.rules s.named (body_of s.rules j c) c inner × (outcome ≡ counted inner)

-- on the root of a document, in the default mode
abbrev pub Transforms : Sheet → Trees → Outcome → Type 0
Transforms s doc outcome = Instantiates s (by_mode 0) (top doc) outcome

-- the result of a document: the normal form of what is put out
abbrev pub IsResultOf : Sheet → Trees → Trees → Type 0
IsResultOf s doc result = (outcome : Outcome) × Transforms s doc outcome × (result ≡ normal_form outcome.out)

-- every valid document has a result, and it is valid
-- A result is asked for, not only that whatever results is valid: a relation without a result must not make
-- anything safe. Each document of a well-formed stylesheet has exactly one result (`law_of_results`), so
-- there both readings agree (`law_of_safety`).
abbrev pub IsSafe : Grammar → Grammar → Sheet → Type 0
IsSafe input output s = (doc : Trees) → IsValid input doc → (result : Trees) × IsResultOf s doc result × IsValidOutput output result

-- a valid document with a result that isn't valid
abbrev pub IsCounterexample : Grammar → Grammar → Sheet → Trees → Trees → Type 0
IsCounterexample input output s doc result = IsValid input doc × IsResultOf s doc result × ¬ (IsValidOutput output result)
