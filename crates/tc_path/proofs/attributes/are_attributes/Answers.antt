use Rattle.std.proofs.Common.{subst, sym, ◌∙◌}
use Rattle.tc_path.specs.Scopes.{in_scope}
use Rattle.tc_path.specs.Views.{tokens_of}
use Rattle.tc_path.proofs.PhraseLaws.{handed_on}
use Rattle.tc_path.proofs.PatternLoops.{no_tokens, some_tokens}
use Rattle.tc_path.proofs.AttributeLoops.{AttributesRead, attributes_first, attributes_more, attributes_end, attributes_select_end, attributes_fail, attributes_go_on}
use Rattle.tc_path.proofs.Refusals.{failed_ok}
use Rattle.tc_path.proofs.attributes.are_attributes.Goals as goal

pub loop-next-init : goal.loop-next-init
loop-next-init c = attributes_first (in_scope c.args.scope.now) c.in_ok-first.first c.in_ok-first.ensures.ok

pub loop-next-preserved : goal.loop-next-preserved
loop-next-preserved c =
    subst (λ w. AttributesRead (in_scope c.args.scope.now) (tokens_of c.args.tokens.now) w (tokens_of c.in_ok-more.after.now)) (sym c.both-all.ensures)
    (attributes_more (in_scope c.args.scope.now) c.loop-next.all c.in_ok-more.more c.loop-next.invariant c.in-Some.ensures c.in_ok-more.ensures.ok)

pub returns-in_err-more-clause-no : goal.returns-in_err-more-clause-no
returns-in_err-more-clause-no c =
    handed_on c.from_residual-in_err-more.result c.in_err-more.field-0.0 c.from_residual-in_err-more.ensures.1
    (λ h. attributes_fail (in_scope c.args.scope.now) c.loop-next.invariant c.in-Some.ensures h) c.in_err-more.ensures.no

pub returns-then-is_empty-clause-ok : goal.returns-then-is_empty-clause-ok
returns-then-is_empty-clause-ok c =
    attributes_end (in_scope c.args.scope.now) c.loop-next.all c.loop-next.invariant (no_tokens c.loop-next.rest.now (sym c.is_empty.ensures ∙ c.if-is_empty.true))

pub returns-then-is_empty-clause-select : goal.returns-then-is_empty-clause-select
returns-then-is_empty-clause-select c = attributes_select_end (in_scope c.args.scope.now) c.loop-next.invariant (no_tokens c.loop-next.rest.now (sym c.is_empty.ensures ∙ c.if-is_empty.true))

pub returns-else-is_empty-clause-no : goal.returns-else-is_empty-clause-no
returns-else-is_empty-clause-no c =
    attributes_go_on (in_scope c.args.scope.now) c.loop-next.invariant c.in_default.ensures (some_tokens c.loop-next.rest.now (sym c.is_empty.ensures ∙ c.if-is_empty.false))

pub returns-in_err-first-clause-ok : goal.returns-in_err-first-clause-ok
returns-in_err-first-clause-ok c = failed_ok c.from_residual.result _ _ c.from_residual.ensures.1

pub returns-in_err-first-clause-select : goal.returns-in_err-first-clause-select
returns-in_err-first-clause-select c = failed_ok c.from_residual.result _ _ c.from_residual.ensures.1

pub returns-in_err-more-clause-ok : goal.returns-in_err-more-clause-ok
returns-in_err-more-clause-ok c = failed_ok c.from_residual-in_err-more.result _ _ c.from_residual-in_err-more.ensures.1

pub returns-in_err-more-clause-select : goal.returns-in_err-more-clause-select
returns-in_err-more-clause-select c = failed_ok c.from_residual-in_err-more.result _ _ c.from_residual-in_err-more.ensures.1
