use Rattle.std.proofs.Common.{sym, subst}
use Rattle.tc_model.specs.CompactSyntaxNames.{DeclarationAt}
use Rattle.tc_rnc.specs.Scopes.{scope_of}
use Rattle.tc_rnc.specs.Views as seen
use Rattle.tc_rnc.proofs.RefusalLaws.{refuses_map, passed, unmade_by}
use Rattle.tc_rnc.proofs.UnreadLaws.{unread_ok}
use Rattle.tc_rnc.proofs.DeclarationLaws as l
use Rattle.tc_rnc.proofs.declarations.namespace.Goals as goal

pub returns-in_err-prefix-clause-no : goal.returns-in_err-prefix-clause-no
returns-in_err-prefix-clause-no c =
    passed _ _ c.from_residual.ensures.1 c.in_err-prefix.ensures.no (λ x y. l.namespace_stops c.requires y)

pub returns-then-not-may_bind-clause-no : goal.returns-then-not-may_bind-clause-no
returns-then-not-may_bind-clause-no c =
    refuses_map c.unexpected.ensures (λ x y. l.namespace_taken c.requires c.in_ok-prefix.ensures.ok c.in_ok-prefix.ensures.whole c.if-not-may_bind.ensures y)

pub returns-in_err-bind-clause-no : goal.returns-in_err-bind-clause-no
returns-in_err-bind-clause-no c =
    unmade_by _ _ _ c.from_residual-in_err-bind.ensures.1 c.in_err-bind.ensures.no

pub returns-clause-ok : goal.returns-clause-ok
returns-clause-ok c =
    subst (λ z. DeclarationAt (scope_of c.args.scope.now) (seen.tokens c.args.tokens.now) z (seen.tokens c.in_ok-prefix.after.now)) (sym c.in_ok-bind.ensures.ok)
    (l.declares_namespace (scope_of c.args.scope.now) (seen.tokens c.args.tokens.now) (seen.tokens c.args.rest.now) (seen.tokens c.in_ok-prefix.after.now) c.in_ok-prefix.prefix.now c.in_ok-prefix.value.now c.requires c.in_ok-prefix.ensures.ok c.if-not-may_bind.ensures)

pub returns-clause-whole : goal.returns-clause-whole
returns-clause-whole c =
    l.namespace_read c.requires c.in_ok-prefix.ensures.ok c.in_ok-prefix.ensures.whole c.if-not-may_bind.ensures

pub returns-in_err-prefix-clause-ok : goal.returns-in_err-prefix-clause-ok
returns-in_err-prefix-clause-ok c = unread_ok _ _ _ c.from_residual.ensures.1

pub returns-in_err-bind-clause-ok : goal.returns-in_err-bind-clause-ok
returns-in_err-bind-clause-ok c = unread_ok _ _ _ c.from_residual-in_err-bind.ensures.1
