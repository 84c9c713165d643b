use Rattle.std.proofs.Common.{sym, subst}
use Rattle.tc_model.specs.CompactSyntaxNames.{DeclarationAt}
use Rattle.tc_rnc.specs.Scopes.{scope_of}
use Rattle.tc_rnc.specs.Views as seen
use Rattle.tc_rnc.proofs.RefusalLaws.{refuses_map, passed, unmade_by}
use Rattle.tc_rnc.proofs.UnreadLaws.{unread_ok}
use Rattle.tc_rnc.proofs.DeclarationLaws as l
use Rattle.tc_rnc.proofs.declarations.default_alone.Goals as goal

pub returns-in_err-value-clause-no : goal.returns-in_err-value-clause-no
returns-in_err-value-clause-no c =
    passed _ _ c.from_residual.ensures.1 c.in_err-value.ensures.no (λ x y. l.default_uri_stops c.requires.words.1 c.requires.words.2 c.requires.alone.1 y)

pub returns-then-not-may_bind-clause-no : goal.returns-then-not-may_bind-clause-no
returns-then-not-may_bind-clause-no c =
    refuses_map c.unexpected.ensures (λ x y. l.default_taken c.requires.words.1 c.requires.words.2 c.in_ok-value.ensures.ok c.in_ok-value.ensures.whole c.if-not-may_bind.ensures y)

pub returns-in_err-bind-clause-no : goal.returns-in_err-bind-clause-no
returns-in_err-bind-clause-no c =
    unmade_by _ _ _ c.from_residual-in_err-bind.ensures.1 c.in_err-bind.ensures.no

pub returns-clause-ok : goal.returns-clause-ok
returns-clause-ok c =
    subst (λ z. DeclarationAt (scope_of c.args.scope.now) (seen.tokens c.args.tokens.now) z (seen.tokens c.in_ok-value.after.now)) (sym c.in_ok-bind.ensures.ok)
    (l.declares_default (scope_of c.args.scope.now) (seen.tokens c.args.tokens.now) c.requires.words.0 (seen.tokens c.args.rest.now) (seen.tokens c.in_ok-value.after.now) c.in_ok-value.value.now c.requires.words.1 c.requires.words.2 c.in_ok-value.ensures.ok c.if-not-may_bind.ensures)

pub returns-clause-whole : goal.returns-clause-whole
returns-clause-whole c =
    l.default_read c.requires.words.1 c.requires.words.2 c.in_ok-value.ensures.ok c.in_ok-value.ensures.whole c.if-not-may_bind.ensures

pub returns-in_err-value-clause-ok : goal.returns-in_err-value-clause-ok
returns-in_err-value-clause-ok c = unread_ok _ _ _ c.from_residual.ensures.1

pub returns-in_err-bind-clause-ok : goal.returns-in_err-bind-clause-ok
returns-in_err-bind-clause-ok c = unread_ok _ _ _ c.from_residual-in_err-bind.ensures.1
