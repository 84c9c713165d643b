use Rattle.std.proofs.Common.{sym}
use Rattle.tc_rnc.specs.Refusals.{unsupported}
use Rattle.tc_rnc.proofs.RefusalLaws.{refuses_map}
use Rattle.tc_rnc.proofs.Constructs.{ended_first, unread_first, none_first, none_begins, no_literal_at, literal_first, value_first}
use Rattle.tc_rnc.proofs.faults.no_pattern.Goals as goal

pub returns-in_default : goal.returns-in_default
returns-in_default c = refuses_map c.unexpected.ensures (λ x y. ended_first c.in_default.ensures y)

pub returns-in-Some-unread_pattern : goal.returns-in-Some-unread_pattern
returns-in-Some-unread_pattern c = unsupported (unread_first c.in-Some.ensures (sym c.in-Some-unread_pattern.ensures))

pub returns-in-Some-unread_literal : goal.returns-in-Some-unread_literal
returns-in-Some-unread_literal c = refuses_map c.in-Some-unread_literal.ensures (λ x y. literal_first y)

pub returns-in-Some-literal : goal.returns-in-Some-literal
returns-in-Some-literal c = unsupported (value_first c.in-Some.ensures c.in_default-unread_literal.ensures c.in-Some-literal.ensures)

pub returns-in-None : goal.returns-in-None
returns-in-None c =
    refuses_map c.unexpected-in-None.ensures
    (λ x y. none_first c.in-Some.ensures (none_begins c.in-Some.ensures c.requires (sym c.in_default-unread_pattern.ensures) (no_literal_at c.in-Some.ensures c.in_default-unread_literal.ensures c.in-None.ensures)) y)
