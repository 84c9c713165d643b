use Rattle.std.proofs.Common.{◌∷◌, ◌∙◌, [], ap, sym, subst}
use Rattle.tc_model.specs.CompactSyntaxNames.{bound_to, DeclarationAt}
use Rattle.tc_rnc.specs.Scopes.{scope_of}
use Rattle.tc_rnc.specs.Views as seen
use Rattle.tc_rnc.proofs.RefusalLaws.{refuses_map, passed, unmade_by}
use Rattle.tc_rnc.proofs.UnreadLaws.{unread_ok}
use Rattle.tc_rnc.proofs.DeclarationLaws as l
use Rattle.tc_rnc.proofs.declarations.default_and_prefix.Goals as goal

pub returns-in_err-prefix-clause-no : goal.returns-in_err-prefix-clause-no
returns-in_err-prefix-clause-no c =
    passed _ _ c.from_residual.ensures.1 c.in_err-prefix.ensures.no (λ x y. l.both_stops c.requires.words.1 c.requires.words.2 c.requires.both y)

pub returns-then-not-may_bind-clause-no : goal.returns-then-not-may_bind-clause-no
returns-then-not-may_bind-clause-no c =
    refuses_map c.unexpected.ensures (λ x y. l.both_taken c.requires.words.1 c.requires.words.2 c.in_ok-prefix.ensures.ok c.in_ok-prefix.ensures.whole (λ a b. c.if-not-may_bind.ensures a) y)

pub returns-then-not-may_bind-2-clause-no : goal.returns-then-not-may_bind-2-clause-no
returns-then-not-may_bind-2-clause-no c =
    refuses_map c.unexpected-then-not-may_bind-2.ensures (λ x y. l.both_taken c.requires.words.1 c.requires.words.2 c.in_ok-prefix.ensures.ok c.in_ok-prefix.ensures.whole (λ a b. c.if-not-may_bind-2.ensures b) y)

pub returns-in_err-bind-clause-no : goal.returns-in_err-bind-clause-no
returns-in_err-bind-clause-no c =
    unmade_by _ _ _ c.from_residual-in_err-bind.ensures.1 c.in_err-bind.ensures.no

pub returns-in_err-bind-2-clause-no : goal.returns-in_err-bind-2-clause-no
returns-in_err-bind-2-clause-no c =
    unmade_by _ _ _ c.from_residual-in_err-bind-2.ensures.1 c.in_err-bind-2.ensures.no

pub returns-clause-ok : goal.returns-clause-ok
returns-clause-ok c =
    subst (λ z. DeclarationAt (scope_of c.args.scope.now) (seen.tokens c.args.tokens.now) z (seen.tokens c.in_ok-prefix.after.now)) (sym (c.in_ok-bind-2.ensures.ok ∙ ap (λ z. bound_to [] c.in_ok-prefix.value.now ∷ z) c.in_ok-bind.ensures.ok))
    (l.declares_both (scope_of c.args.scope.now) (seen.tokens c.args.tokens.now) c.requires.words.0 (seen.tokens c.args.rest.now) (seen.tokens c.in_ok-prefix.after.now) c.in_ok-prefix.prefix.now c.in_ok-prefix.value.now c.requires.words.1 c.requires.words.2 c.in_ok-prefix.ensures.ok c.if-not-may_bind.ensures c.if-not-may_bind-2.ensures)

pub returns-clause-whole : goal.returns-clause-whole
returns-clause-whole c =
    l.both_read c.requires.words.1 c.requires.words.2 c.requires.both c.in_ok-prefix.ensures.ok c.in_ok-prefix.ensures.whole c.if-not-may_bind.ensures c.if-not-may_bind-2.ensures

pub returns-in_err-prefix-clause-ok : goal.returns-in_err-prefix-clause-ok
returns-in_err-prefix-clause-ok c = unread_ok _ _ _ c.from_residual.ensures.1

pub returns-in_err-bind-clause-ok : goal.returns-in_err-bind-clause-ok
returns-in_err-bind-clause-ok c = unread_ok _ _ _ c.from_residual-in_err-bind.ensures.1

pub returns-in_err-bind-2-clause-ok : goal.returns-in_err-bind-2-clause-ok
returns-in_err-bind-2-clause-ok c = unread_ok _ _ _ c.from_residual-in_err-bind-2.ensures.1
