use Rattle.tc_model.proofs.TotalSafety.{valid_results, no_counterexample, safe_by_results}
use Rattle.tc_model.proofs.laws.law_of_safety.Goals as goal

pub returns-clause-valid_results : goal.returns-clause-valid_results
returns-clause-valid_results c = valid_results

pub returns-clause-no_counterexample : goal.returns-clause-no_counterexample
returns-clause-no_counterexample c = no_counterexample

pub returns-clause-by_results : goal.returns-clause-by_results
returns-clause-by_results c = safe_by_results
