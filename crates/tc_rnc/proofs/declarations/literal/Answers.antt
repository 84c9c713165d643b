use Rattle.tc_rnc.specs.Refusals.{unsupported}
use Rattle.tc_rnc.specs.Views as seen
use Rattle.tc_rnc.proofs.RefusalLaws.{refuses_map}
use Rattle.tc_rnc.proofs.Constructs.{read_literal, no_literal_at}
use Rattle.tc_rnc.proofs.DeclarationLaws as l
use Rattle.tc_rnc.proofs.declarations.literal.Goals as goal

pub returns-in_default-clause-no : goal.returns-in_default-clause-no
returns-in_default-clause-no c =
    refuses_map c.unexpected.ensures (λ x y. l.no_name_at_end c.in_default.ensures y)

pub returns-then-is_inherited-clause-no : goal.returns-then-is_inherited-clause-no
returns-then-is_inherited-clause-no c =
    unsupported (l.inherited c.in-Some.ensures c.if-is_inherited.ensures)

pub returns-in_default-literal-clause-no : goal.returns-in_default-literal-clause-no
returns-in_default-literal-clause-no c =
    refuses_map c.unexpected-in_default-literal.ensures (λ x y. l.no_name c.in-Some.ensures (no_literal_at c.in-Some.ensures c.in_default-unread_literal.ensures c.in_default-literal.ensures) c.if-is_inherited.ensures y)

pub returns-in-Some-unread_literal-clause-no : goal.returns-in-Some-unread_literal-clause-no
returns-in-Some-unread_literal-clause-no c =
    refuses_map c.in-Some-unread_literal.ensures (λ x y. l.unread_name y)

pub returns-in-Some-tilde_at-clause-no : goal.returns-in-Some-tilde_at-clause-no
returns-in-Some-tilde_at-clause-no c =
    unsupported (l.joined_name c.in-Some.ensures c.in-Some-literal.ensures (read_literal c.in-Some.ensures c.in_default-unread_literal.ensures c.in-Some-literal.ensures) c.in-Some-tilde_at.ensures)

pub returns-clause-ok : goal.returns-clause-ok
returns-clause-ok c =
    l.a_literal (seen.token c.in-Some.first.now) (seen.tokens c.args.tokens.now) (seen.tokens c.in-Some.rest.now) c.in-Some-literal.value.now c.in-Some.ensures c.in-Some-literal.ensures (read_literal c.in-Some.ensures c.in_default-unread_literal.ensures c.in-Some-literal.ensures)

pub returns-clause-whole : goal.returns-clause-whole
returns-clause-whole c =
    l.name_read c.in-Some.ensures c.in-Some-literal.ensures (read_literal c.in-Some.ensures c.in_default-unread_literal.ensures c.in-Some-literal.ensures) c.in_default-tilde_at.ensures
