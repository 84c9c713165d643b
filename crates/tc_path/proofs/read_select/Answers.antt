use Rattle.std.proofs.Common.{map}
use Rattle.tc_model.specs.Sheets as sheets
use Rattle.tc_model.specs.PathText as texts
use Rattle.tc_model.specs.Views.{bound}
use Rattle.tc_path.specs.declared.reasons.Context.TheVariants as contexts
use Rattle.tc_path.proofs.NodeTestLaws.{or_memory}
use Rattle.tc_path.proofs.Refusals.{unread_no, unread_cause, unread_renamed, refused_no, refused_cause, refused_renamed, same_error, failed_ok}
use Rattle.tc_path.specs.Views.{tokens_of}
use Rattle.tc_path.proofs.read_select.Goals as goal

pub returns-in_err-tokens-clause-no : goal.returns-in_err-tokens-clause-no
returns-in_err-tokens-clause-no c =
    same_error _ c.from_residual.result c.in_err-tokens.field-0.0 c.from_residual.ensures.1 (unread_no contexts.Select c.args.text.now sheets.Path (texts.IsSelect (map bound c.args.scope.now)) c.in_err-tokens.field-0.0 c.in_err-tokens.ensures.no)

pub returns-in_err-tokens-clause-cause : goal.returns-in_err-tokens-clause-cause
returns-in_err-tokens-clause-cause c =
    same_error _ c.from_residual.result c.in_err-tokens.field-0.0 c.from_residual.ensures.1 (unread_cause contexts.Select c.args.text.now c.in_err-tokens.field-0.0 c.in_err-tokens.ensures.no)

pub returns-in_err-tokens-clause-renamed : goal.returns-in_err-tokens-clause-renamed
returns-in_err-tokens-clause-renamed c = λ v r.
    same_error _ c.from_residual.result c.in_err-tokens.field-0.0 c.from_residual.ensures.1 (unread_renamed contexts.Select c.args.text.now sheets.Path (texts.IsSelect (map bound c.args.scope.now)) v c.in_err-tokens.field-0.0 c.in_err-tokens.ensures.no r)

pub returns-in-Err-clause-no : goal.returns-in-Err-clause-no
returns-in-Err-clause-no c =
    refused_no contexts.Select c.args.text.now sheets.Path (texts.IsSelect (map bound c.args.scope.now)) c.in_ok-tokens.ensures.tokens c.in-Err.fault c.refusal.result
    c.refusal.ensures
    (or_memory c.in-Err.fault (λ h v a. h v a.drops a.select) c.in-Err.ensures.no)

pub returns-in-Err-clause-cause : goal.returns-in-Err-clause-cause
returns-in-Err-clause-cause c =
    refused_cause contexts.Select c.args.text.now c.in_ok-tokens.ensures.tokens c.in_ok-tokens.ensures.shallow c.in-Err.fault c.refusal.result
    c.refusal.ensures

pub returns-in-Err-clause-renamed : goal.returns-in-Err-clause-renamed
returns-in-Err-clause-renamed c = λ v r.
    refused_renamed contexts.Select c.args.text.now sheets.Path (texts.IsSelect (map bound c.args.scope.now)) v c.in_ok-tokens.ensures.tokens c.in-Err.fault c.refusal.result
    c.refusal.ensures
    (or_memory c.in-Err.fault (λ h v a. h v a.drops a.select) c.in-Err.ensures.no) r

pub returns-in_err-tokens-clause-ok : goal.returns-in_err-tokens-clause-ok
returns-in_err-tokens-clause-ok c = failed_ok c.from_residual.result _ _ c.from_residual.ensures.1

pub returns-in-Ok-clause-ok : goal.returns-in-Ok-clause-ok
returns-in-Ok-clause-ok c = record { tokens = tokens_of c.in_ok-tokens.tokens.now; are_tokens = c.in_ok-tokens.ensures.tokens; not_too_deep = c.in_ok-tokens.ensures.shallow; phrase = record { drops = c.in-Ok.field-0-1; select = c.in-Ok.ensures.ok } }

pub returns-in-Ok-clause-renamed : goal.returns-in-Ok-clause-renamed
returns-in-Ok-clause-renamed c = λ v r. tt
