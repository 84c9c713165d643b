use Rattle.std.proofs.Common.{sym, subst}
use Rattle.tc_rnc.specs.Refusals.{malformed, too_deep}
use Rattle.tc_rnc.specs.Views as seen
use Rattle.tc_rnc.proofs.RefusalLaws.{passed, passes, map_ok}
use Rattle.tc_rnc.proofs.UnreadLaws.{unread_ok}
use Rattle.tc_rnc.proofs.PatternLaws as l
use Rattle.tc_rnc.proofs.patterns.+balanced.Goals as goal

pub balanced-loop-after-init : goal.balanced-loop-after-init
balanced-loop-after-init t c =
    subst (λ z. l.BalancedSoFar (seen.end c.args.end) c.args.deepest (seen.tokens c.args.tokens.now) (seen.tokens z)) (sym c.split_at.ensures.back) (l.no_part_yet (seen.end c.args.end) c.args.deepest (seen.tokens c.args.tokens.now))

pub balanced-returns-in-Some-clause-ok : goal.balanced-returns-in-Some-clause-ok
balanced-returns-in-Some-clause-ok t c = l.parts_done (seen.end c.args.end) c.args.deepest (seen.tokens c.args.tokens.now) (seen.tokens c.loop-after.rest.now) (seen.tokens c.in-Some.after.now) c.loop-after.invariant c.in-Some.ensures

pub balanced-returns-in_err-after-clause-no : goal.balanced-returns-in_err-after-clause-no
balanced-returns-in_err-after-clause-no t c = passed _ _ c.from_residual.ensures.1 c.in_err-after.ensures.no (λ v y. l.no_more_parts c.loop-after.invariant y)

pub balanced-loop-after-smaller : goal.balanced-loop-after-smaller
balanced-loop-after-smaller t c = l.part_shorter c.in_ok-after.ensures.ok

pub balanced-loop-after-preserved : goal.balanced-loop-after-preserved
balanced-loop-after-preserved t c = l.more_parts c.loop-after.invariant c.in_ok-after.ensures.ok

pub balanced_part-returns-in_default-clause-no : goal.balanced_part-returns-in_default-clause-no
balanced_part-returns-in_default-clause-no t c = malformed (l.ended_text c.in_default.ensures)

pub balanced_part-returns-then-not-is_mark-clause-ok : goal.balanced_part-returns-then-not-is_mark-clause-ok
balanced_part-returns-then-not-is_mark-clause-ok t c =
    l.a_part c.args.deepest (seen.token c.in-Some.first.now) (seen.tokens c.args.tokens.now) (seen.tokens c.in-Some.rest.now) c.in-Some.ensures c.if-not-is_mark.ensures c.requires

pub balanced_part-returns-then-deepest-eq0-clause-no : goal.balanced_part-returns-then-deepest-eq0-clause-no
balanced_part-returns-then-deepest-eq0-clause-no t c = too_deep (l.deep_part c.in-Some.ensures c.if-not-is_mark.ensures c.if-deepest-eq0.true)

pub balanced_part-returns-clause-ok : goal.balanced_part-returns-clause-ok
balanced_part-returns-clause-ok t c =
    map_ok _ _ c.balanced.result
    (λ r m. l.braces_part c.args.deepest (seen.token c.in-Some.first.now) (seen.tokens c.args.tokens.now) (seen.tokens c.in-Some.rest.now) (seen.tokens r.now) c.if-deepest-eq0.false c.in-Some.ensures c.if-not-is_mark.ensures m) c.balanced.ensures.ok

pub balanced_part-returns-clause-no : goal.balanced_part-returns-clause-no
balanced_part-returns-clause-no t c =
    passes c.balanced.result c.balanced.ensures.no (λ v y. l.braces_stop c.args.deepest c.if-deepest-eq0.false c.in-Some.ensures c.if-not-is_mark.ensures y)

pub balanced-returns-in_err-after-clause-ok : goal.balanced-returns-in_err-after-clause-ok
balanced-returns-in_err-after-clause-ok t c = unread_ok _ _ _ c.from_residual.ensures.1
