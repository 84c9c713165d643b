use Rattle.std.proofs.Common.{Bool, [], subst, IfOk, IfErr, MatchBool}
use Rattle.tc_model.specs.PathTextPhrases as p
use Rattle.tc_model.specs.Sheets as sheets
use Rattle.tc_path.specs.Views.{tokens_of}
use Rattle.tc_path.specs.Faults.{OrNoMemory}
use Rattle.tc_path.proofs.Refusals.{failed_ok}
use Rattle.tc_path.proofs.WholeLaws.{memory_on}
use Rattle.tc_path.proofs.whole.whole_attributes.Goals as goal

pub returns-clause-ok : goal.returns-clause-ok
returns-clause-ok c =
    subst (λ s. IfOk c.are_attributes.result (λ all. MatchBool all (p.AttributesAt s (tokens_of c.args.tokens.now) []) (p.AttributesAt s (tokens_of c.args.tokens.now) [] → ⊥))) c.in_ok-known.ensures.ok c.are_attributes.ensures.ok

pub returns-clause-select : goal.returns-clause-select
returns-clause-select c =
    subst (λ s. IfOk c.are_attributes.result (λ _. (q : sheets.Path) × (drops : Bool) × p.SelectAt s (tokens_of c.args.tokens.now) q drops [])) c.in_ok-known.ensures.ok c.are_attributes.ensures.select

pub returns-clause-no : goal.returns-clause-no
returns-clause-no c =
    subst (λ s. IfErr c.are_attributes.result (λ e. OrNoMemory e ((q : sheets.Path) (drops : Bool) → p.SelectAt s (tokens_of c.args.tokens.now) q drops [] → ⊥))) c.in_ok-known.ensures.ok c.are_attributes.ensures.no

pub returns-in_err-known-clause-ok : goal.returns-in_err-known-clause-ok
returns-in_err-known-clause-ok c = failed_ok c.from_residual.result _ _ c.from_residual.ensures.1

pub returns-in_err-known-clause-select : goal.returns-in_err-known-clause-select
returns-in_err-known-clause-select c = failed_ok c.from_residual.result _ _ c.from_residual.ensures.1

pub returns-in_err-known-clause-no : goal.returns-in_err-known-clause-no
returns-in_err-known-clause-no c = memory_on _ c.from_residual.result _ c.from_residual.ensures.1 c.in_err-known.ensures.no
