use Rattle.std.proofs.Common.{rules}
use Rattle.tc_rnc.specs.Connectors as view
use Rattle.tc_rnc.proofs.RefusalLaws.{refuses_map, unmade}
use Rattle.tc_rnc.proofs.UnreadLaws.{unread_ok, unread_on}
use Rattle.tc_rnc.proofs.ItemLaws.{goes_on_at}
use Rattle.tc_rnc.proofs.patterns.put_item.Goals as goal

pub returns-in_err-push-clause-no : goal.returns-in_err-push-clause-no
returns-in_err-push-clause-no c = unmade _ _ c.from_residual.ensures.1

pub returns-else-eq-clause-no : goal.returns-else-eq-clause-no
returns-else-eq-clause-no c =
    refuses_map c.unexpected.ensures (λ v y. ((view.connector c.in-Some.connector, goes_on_at c.in-Some.ensures, search rules), y))

pub returns-then-eq-clause-ok : goal.returns-then-eq-clause-ok
returns-then-eq-clause-ok c = search rules

pub returns-in_err-push-clause-ok : goal.returns-in_err-push-clause-ok
returns-in_err-push-clause-ok c = unread_ok _ _ _ c.from_residual.ensures.1

pub returns-in_err-push-clause-items : goal.returns-in_err-push-clause-items
returns-in_err-push-clause-items c = unread_on c.from_residual.result _ _ c.from_residual.ensures.1

pub returns-in_default-clause-items : goal.returns-in_default-clause-items
returns-in_default-clause-items c = c.in_ok-push.ensures.items

pub returns-in_default-clause-ok : goal.returns-in_default-clause-ok
returns-in_default-clause-ok c = c.in_default.ensures

pub returns-then-eq-clause-items : goal.returns-then-eq-clause-items
returns-then-eq-clause-items c = c.in_ok-push.ensures.items
