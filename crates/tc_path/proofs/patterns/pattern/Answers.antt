use Rattle.std.proofs.Common.{List, arith, map, subst, sym, ap, ◌∙◌}
use Rattle.tc_path.specs.Scopes.{in_scope}
use Rattle.tc_model.specs.PathTextPhrases as p
use Rattle.tc_path.specs.Views.{tokens_of, alternative}
use Rattle.tc_path.proofs.NodeTestLaws.{shorter_by}
use Rattle.tc_path.specs.Faults.{OrNoMemory}
use Rattle.tc_path.proofs.PhraseLaws.{handed_on}
use Rattle.tc_path.proofs.Refusals.{failed_ok, no_memory, same_error}
use Rattle.tc_path.proofs.PatternLoops.{patterns_start, patterns_read, patterns_behind, patterns_end, patterns_fail, patterns_go_on, no_tokens, some_tokens}
use Rattle.tc_path.proofs.patterns.pattern.Goals as goal

pub loop-found-init : goal.loop-found-init
loop-found-init c = patterns_start (in_scope c.args.scope.now) (tokens_of c.args.tokens.now) _ _ (ap (map alternative) c.new-found.ensures.items) (ap tokens_of c.split_at.ensures.back)

pub loop-found-preserved : goal.loop-found-preserved
loop-found-preserved c = patterns_behind (in_scope c.args.scope.now) (patterns_read (in_scope c.args.scope.now) c.loop-found.invariant c.in_ok-more.ensures.0 c.in_ok-keep.ensures.kept) c.in-Some.ensures

pub loop-found-smaller : goal.loop-found-smaller
loop-found-smaller c = omega (arith, shorter_by c.in_ok-more.after.now c.in-Some.next.now c.in-Some.ensures, c.in_ok-more.ensures.1)

pub returns-in_err-more-clause-no : goal.returns-in_err-more-clause-no
returns-in_err-more-clause-no c = handed_on c.from_residual.result c.in_err-more.field-0.0 c.from_residual.ensures.1 (patterns_fail (in_scope c.args.scope.now) c.loop-found.invariant) c.in_err-more.ensures

pub returns-then-is_empty-clause-ok : goal.returns-then-is_empty-clause-ok
returns-then-is_empty-clause-ok c =
    subst (λ w. p.PatternAt (in_scope c.args.scope.now) (tokens_of c.args.tokens.now) (map alternative w)) (sym c.into_bump_slice.ensures)
    (patterns_end (in_scope c.args.scope.now) (patterns_read (in_scope c.args.scope.now) c.loop-found.invariant c.in_ok-more.ensures.0 c.in_ok-keep.ensures.kept) (no_tokens c.in_ok-more.after.now (sym c.is_empty.ensures ∙ c.if-is_empty.true)))

pub returns-in_default-clause-no : goal.returns-in_default-clause-no
returns-in_default-clause-no c =
    patterns_go_on (in_scope c.args.scope.now) (patterns_read (in_scope c.args.scope.now) c.loop-found.invariant c.in_ok-more.ensures.0 c.in_ok-keep.ensures.kept)
    (some_tokens c.in_ok-more.after.now (sym c.is_empty.ensures ∙ c.if-is_empty.false)) c.in_default.ensures

pub returns-in_err-more-clause-ok : goal.returns-in_err-more-clause-ok
returns-in_err-more-clause-ok c = failed_ok c.from_residual.result _ _ c.from_residual.ensures.1

pub returns-in_err-keep-clause-ok : goal.returns-in_err-keep-clause-ok
returns-in_err-keep-clause-ok c = failed_ok c.from_residual-in_err-keep.result _ _ c.from_residual-in_err-keep.ensures.1

pub returns-in_default-clause-ok : goal.returns-in_default-clause-ok
returns-in_default-clause-ok c = tt

pub returns-then-is_empty-clause-no : goal.returns-then-is_empty-clause-no
returns-then-is_empty-clause-no c = tt

pub returns-in_err-keep-clause-no : goal.returns-in_err-keep-clause-no
returns-in_err-keep-clause-no c =
    same_error (λ e. OrNoMemory e ((xs : List p.Alternative) → p.PatternAt (in_scope c.args.scope.now) (tokens_of c.args.tokens.now) xs → ⊥)) c.from_residual-in_err-keep.result c.in_err-keep.field-0.0 c.from_residual-in_err-keep.ensures.1
    (no_memory c.in_err-keep.field-0.0 _ c.in_err-keep.ensures.memory)
