use Rattle.tc_rnc.specs.Scopes.{scope_of}
use Rattle.tc_rnc.specs.Views as seen
use Rattle.tc_rnc.proofs.RefusalLaws.{passed}
use Rattle.tc_rnc.proofs.UnreadLaws.{unread_ok}
use Rattle.tc_rnc.proofs.DeclarationLaws as l
use Rattle.tc_rnc.proofs.declarations.declaration.Goals as goal

pub returns-in_default-after_word-2-clause-no : goal.returns-in_default-after_word-2-clause-no
returns-in_default-after_word-2-clause-no c =
    absurd (l.undeclared (seen.tokens c.args.tokens.now) c.requires c.in_default.ensures c.in_default-after_word.ensures c.in_default-after_word-2.ensures)

pub returns-in_err-after-clause-no : goal.returns-in_err-after-clause-no
returns-in_err-after-clause-no c =
    passed _ _ c.from_residual.ensures.1 c.in_err-after.ensures.no (λ x y. l.datatypes_stops c.in-Some-after_word-2.ensures y)

pub returns-clause-ok : goal.returns-clause-ok
returns-clause-ok c =
    l.declares_datatypes (scope_of c.args.scope.now) (seen.tokens c.args.tokens.now) (seen.tokens c.in-Some-after_word-2.rest.now) (seen.tokens c.in_ok-after.after.now) _ _ c.in-Some-after_word-2.ensures c.in_ok-after.ensures.ok

pub returns-clause-whole : goal.returns-clause-whole
returns-clause-whole c =
    l.datatypes_read c.in-Some-after_word-2.ensures c.in_ok-after.ensures.whole

pub returns-in_err-after-clause-ok : goal.returns-in_err-after-clause-ok
returns-in_err-after-clause-ok c = unread_ok _ _ _ c.from_residual.ensures.1

pub returns-in_err-after-clause-whole : goal.returns-in_err-after-clause-whole
returns-in_err-after-clause-whole c = unread_ok _ _ _ c.from_residual.ensures.1

pub returns-in-Some-clause-ok : goal.returns-in-Some-clause-ok
returns-in-Some-clause-ok c = c.namespace.ensures.ok

pub returns-in-Some-clause-whole : goal.returns-in-Some-clause-whole
returns-in-Some-clause-whole c = c.namespace.ensures.whole

pub returns-in-Some-clause-no : goal.returns-in-Some-clause-no
returns-in-Some-clause-no c = c.namespace.ensures.no

pub returns-in-Some-after_word-clause-ok : goal.returns-in-Some-after_word-clause-ok
returns-in-Some-after_word-clause-ok c = c.default_namespace.ensures.ok

pub returns-in-Some-after_word-clause-whole : goal.returns-in-Some-after_word-clause-whole
returns-in-Some-after_word-clause-whole c = c.default_namespace.ensures.whole

pub returns-in-Some-after_word-clause-no : goal.returns-in-Some-after_word-clause-no
returns-in-Some-after_word-clause-no c = c.default_namespace.ensures.no
