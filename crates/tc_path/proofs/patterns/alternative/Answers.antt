use Rattle.std.proofs.Common.{arith, subst, sym}
use Rattle.tc_path.specs.Scopes.{in_scope}
use Rattle.tc_model.specs.PathTextPhrases as p
use Rattle.tc_path.specs.Views.{tokens_of}
use Rattle.tc_path.proofs.NodeTestLaws.{other_shorter}
use Rattle.tc_path.proofs.PhraseLaws.{passed_on}
use Rattle.tc_path.proofs.PatternLoops.{start_root, start_steps, no_start, start_within, start_shorter}
use Rattle.tc_path.proofs.patterns.alternative.Goals as goal

pub returns-in-Some : goal.returns-in-Some
returns-in-Some c = (p.PatternAlternativeAt.other_node c.in-Some.ensures, other_shorter c.args.tokens.now c.in-Some.rest.now c.in-Some.ensures)

pub returns-then-is_root : goal.returns-then-is_root
returns-then-is_root c = (start_root (in_scope c.args.scope.now) c.start-from_root.ensures c.if-is_root.ensures, start_shorter c.args.tokens.now _ c.start-from_root.ensures c.if-is_root.ensures.0)

pub returns-in_err-steps : goal.returns-in_err-steps
returns-in_err-steps c =
    passed_on _ c.from_residual.result c.in_err-steps.field-0.0 c.from_residual.ensures.1
    (no_start (in_scope c.args.scope.now) c.in_default.ensures c.start-from_root.ensures c.if-is_root.ensures) c.in_err-steps.ensures

pub returns : goal.returns
returns c = (
  subst (λ w. p.PatternAlternativeAt (in_scope c.args.scope.now) (tokens_of c.args.tokens.now) w (tokens_of c.in_ok-steps.after.now)) (sym c.kept.ensures) (start_steps (in_scope c.args.scope.now) c.start-from_root.ensures c.in_ok-steps.ensures.0),
  omega (arith, start_within c.args.tokens.now _ c.start-from_root.ensures, c.in_ok-steps.ensures.1),
)
