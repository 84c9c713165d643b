use Rattle.std.proofs.Common.{sym, subst}
use Rattle.tc_model.specs.CompactSyntaxStops.{in_declaration}
use Rattle.tc_rnc.specs.Schemas.{Declares}
use Rattle.tc_rnc.specs.Scopes.{scope_of}
use Rattle.tc_rnc.specs.Views as seen
use Rattle.tc_rnc.proofs.RefusalLaws.{passed}
use Rattle.tc_rnc.proofs.UnreadLaws.{unread_ok}
use Rattle.tc_rnc.proofs.DeclarationLaws as l
use Rattle.tc_rnc.proofs.declarations.declarations.Goals as goal

pub loop-end-init : goal.loop-end-init
loop-end-init c =
    subst (λ z. Declares (seen.end c.args.end) (scope_of c.args.scope.now) (scope_of c.args.scope.now) (seen.tokens c.args.tokens.now) (seen.tokens z)) (sym c.split_at.ensures.back) (l.nothing_declared (seen.end c.args.end) (scope_of c.args.scope.now) (seen.tokens c.args.tokens.now))

pub returns-in_err-after-clause-no : goal.returns-in_err-after-clause-no
returns-in_err-after-clause-no c =
    passed _ _ c.from_residual.ensures.1 c.in_err-after.ensures.no (λ x y. c.loop-end.invariant.stops 2000 x (in_declaration y))

pub loop-end-smaller : goal.loop-end-smaller
loop-end-smaller c = l.declared_shorter c.in_ok-after.ensures.ok

pub loop-end-preserved : goal.loop-end-preserved
loop-end-preserved c =
    l.one_declared (seen.end c.args.end) (scope_of c.args.scope.now) (scope_of c.loop-end.scope) (scope_of c.declaration.new.scope) (seen.tokens c.args.tokens.now) (seen.tokens c.loop-end.rest.now) (seen.tokens c.in_ok-after.after.now) c.loop-end.invariant c.in_ok-after.ensures.ok c.in_ok-after.ensures.whole

pub returns-clause-ok : goal.returns-clause-ok
returns-clause-ok c = c.loop-end.invariant

pub returns-in_err-after-clause-ok : goal.returns-in_err-after-clause-ok
returns-in_err-after-clause-ok c = unread_ok _ _ _ c.from_residual.ensures.1
