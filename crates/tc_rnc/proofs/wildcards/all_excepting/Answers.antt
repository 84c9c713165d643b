use Rattle.std.proofs.Common.{sym, subst}
use Rattle.tc_rnc.specs.Scopes.{scope_of}
use Rattle.tc_rnc.specs.Views as seen
use Rattle.tc_rnc.specs.Wildcards.{ExceptsAt, none}
use Rattle.tc_rnc.proofs.WildcardLaws.{one_more}
use Rattle.tc_rnc.proofs.wildcards.all_excepting.Goals as goal

pub loop-wildcard-init : goal.loop-wildcard-init
loop-wildcard-init c =
    let scope = scope_of c.args.scope.now in
    let tokens = seen.tokens c.args.tokens.now in
    subst (λ ws. ExceptsAt scope tokens ws (seen.tokens c.split_at.result.1.now)) (sym c.new-all.ensures.items)
    (subst (λ z. ExceptsAt scope tokens _ (seen.tokens z)) (sym c.split_at.ensures.back) none)

pub loop-wildcard-preserved : goal.loop-wildcard-preserved
loop-wildcard-preserved c =
    subst (λ ws. ExceptsAt (scope_of c.args.scope.now) (seen.tokens c.args.tokens.now) ws (seen.tokens c.in-Some.behind.now)) (sym c.in_ok-push.ensures.items)
    (one_more c.loop-wildcard.invariant c.in-Some.ensures)
