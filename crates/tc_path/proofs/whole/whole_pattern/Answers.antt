use Rattle.std.proofs.Common.{List, map, subst, IfOk, IfErr}
use Rattle.tc_model.specs.PathTextPhrases as p
use Rattle.tc_path.specs.Views.{alternative, tokens_of}
use Rattle.tc_path.specs.Faults.{OrNoMemory}
use Rattle.tc_path.proofs.Refusals.{failed_ok}
use Rattle.tc_path.proofs.WholeLaws.{memory_on}
use Rattle.tc_path.proofs.whole.whole_pattern.Goals as goal

pub returns-clause-ok : goal.returns-clause-ok
returns-clause-ok c = subst (λ s. IfOk c.pattern.result (λ r. p.PatternAt s (tokens_of c.args.tokens.now) (map alternative r.now))) c.in_ok-known.ensures.ok c.pattern.ensures.ok

pub returns-clause-no : goal.returns-clause-no
returns-clause-no c =
    subst (λ s. IfErr c.pattern.result (λ e. OrNoMemory e ((xs : List p.Alternative) → p.PatternAt s (tokens_of c.args.tokens.now) xs → ⊥))) c.in_ok-known.ensures.ok c.pattern.ensures.no

pub returns-in_err-known-clause-ok : goal.returns-in_err-known-clause-ok
returns-in_err-known-clause-ok c = failed_ok c.from_residual.result _ _ c.from_residual.ensures.1

pub returns-in_err-known-clause-no : goal.returns-in_err-known-clause-no
returns-in_err-known-clause-no c = memory_on _ c.from_residual.result _ c.from_residual.ensures.1 c.in_err-known.ensures.no
