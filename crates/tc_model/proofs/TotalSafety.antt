-- Safe, and without a counterexample.
use Rattle.std.proofs.Common.{subst}
use Rattle.tc_model.specs.Trees.{Trees}
use Rattle.tc_model.specs.Grammars.{Grammar}
use Rattle.tc_model.specs.Validity.{IsValid, IsValidOutput}
use Rattle.tc_model.specs.Sheets.{Sheet}
use Rattle.tc_model.specs.WellFormed.{IsSheet}
use Rattle.tc_model.specs.Safety.{IsResultOf, IsSafe, IsCounterexample}
use Rattle.tc_model.proofs.Unique.{result_unique}
use Rattle.tc_model.proofs.Total.{one_result}

module _ (input output : Grammar) (s : Sheet) where
  pub valid_results : IsSafe input output s → (doc result : Trees) → IsValid input doc → IsResultOf s doc result → IsValidOutput output result
  valid_results safe doc result v r =
      let good = safe doc v in
      subst (IsValidOutput output) (result_unique s doc good.0 result good.1 r) good.2

  pub no_counterexample : IsSafe input output s → (doc result : Trees) → ¬ (IsCounterexample input output s doc result)
  no_counterexample safe doc result c = c.2 (valid_results safe doc result c.0 c.1)

  pub safe_by_results : IsSheet s → ((doc result : Trees) → IsValid input doc → IsResultOf s doc result → IsValidOutput output result) → IsSafe input output s
  safe_by_results is valid doc v = let only = one_result s is doc in (only.0, only.1, valid doc only.0 v only.1)
