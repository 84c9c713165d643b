use Rattle.tc_path.specs.Views.{tokens_of}
use Rattle.tc_path.proofs.Refusals.{failed_ok, same_error, unread_tokens}
use Rattle.tc_path.proofs.nesting.shallow_tokens.Goals as goal

pub returns-in_err-found-clause-tokens : goal.returns-in_err-found-clause-tokens
returns-in_err-found-clause-tokens c = failed_ok c.from_residual.result _ _ c.from_residual.ensures.1

pub returns-in_err-found-clause-shallow : goal.returns-in_err-found-clause-shallow
returns-in_err-found-clause-shallow c = failed_ok c.from_residual.result _ _ c.from_residual.ensures.1

pub returns-in_err-found-clause-no : goal.returns-in_err-found-clause-no
returns-in_err-found-clause-no c = same_error _ c.from_residual.result c.in_err-found.field-0.0 c.from_residual.ensures.1 (unread_tokens c.args.text.now c.in_err-found.field-0.0 c.in_err-found.ensures.no)

pub returns-then-is_too_deep-clause-no : goal.returns-then-is_too_deep-clause-no
returns-then-is_too_deep-clause-no c = record { tokens = tokens_of c.in_ok-found.found.now; are_tokens = c.in_ok-found.ensures.ok; too_deep = c.if-is_too_deep.ensures }

pub returns-clause-tokens : goal.returns-clause-tokens
returns-clause-tokens c = c.in_ok-found.ensures.ok

pub returns-clause-shallow : goal.returns-clause-shallow
returns-clause-shallow c = c.if-is_too_deep.ensures
