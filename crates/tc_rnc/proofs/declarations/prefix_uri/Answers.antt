use Rattle.tc_rnc.specs.Views as seen
use Rattle.tc_rnc.proofs.RefusalLaws.{refuses_map, passed}
use Rattle.tc_rnc.proofs.UnreadLaws.{unread_ok}
use Rattle.tc_rnc.proofs.DeclarationLaws as l
use Rattle.tc_rnc.proofs.declarations.prefix_uri.Goals as goal

pub returns-in_default-clause-no : goal.returns-in_default-clause-no
returns-in_default-clause-no c =
    refuses_map c.unexpected.ensures (λ x y. l.no_prefix_at_end c.in_default.ensures y)

pub returns-in_default-identifier_or_keyword-clause-no : goal.returns-in_default-identifier_or_keyword-clause-no
returns-in_default-identifier_or_keyword-clause-no c =
    refuses_map c.unexpected-in_default-identifier_or_keyword.ensures (λ x y. l.not_prefix c.in-Some.ensures c.in_default-identifier_or_keyword.ensures y)

pub returns-in_err-value-clause-no : goal.returns-in_err-value-clause-no
returns-in_err-value-clause-no c =
    passed _ _ c.from_residual.ensures.1 c.in_err-value.ensures.no (λ x y. l.after_prefix c.in-Some.ensures c.in-Some-identifier_or_keyword.ensures y)

pub returns-clause-ok : goal.returns-clause-ok
returns-clause-ok c =
    l.a_prefix_uri (seen.token c.in-Some.first.now) (seen.tokens c.args.tokens.now) (seen.tokens c.in-Some.rest.now) (seen.tokens c.in_ok-value.after.now) c.in-Some-identifier_or_keyword.prefix.now c.in_ok-value.value.now c.in-Some.ensures c.in-Some-identifier_or_keyword.ensures c.in_ok-value.ensures.ok

pub returns-clause-whole : goal.returns-clause-whole
returns-clause-whole c =
    l.prefix_read c.in-Some.ensures c.in-Some-identifier_or_keyword.ensures c.in_ok-value.ensures.whole

pub returns-in_err-value-clause-ok : goal.returns-in_err-value-clause-ok
returns-in_err-value-clause-ok c = unread_ok _ _ _ c.from_residual.ensures.1
