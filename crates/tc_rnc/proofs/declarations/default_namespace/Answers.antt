use Rattle.tc_rnc.proofs.RefusalLaws.{refuses_map}
use Rattle.tc_rnc.proofs.DeclarationLaws as l
use Rattle.tc_rnc.proofs.declarations.default_namespace.Goals as goal

pub returns-in_default-clause-no : goal.returns-in_default-clause-no
returns-in_default-clause-no c =
    refuses_map c.unexpected.ensures (λ x y. l.default_stops c.requires c.in_default.ensures y)

pub returns-in-Some-after_mark-clause-ok : goal.returns-in-Some-after_mark-clause-ok
returns-in-Some-after_mark-clause-ok c = c.default_alone.ensures.ok

pub returns-in-Some-after_mark-clause-whole : goal.returns-in-Some-after_mark-clause-whole
returns-in-Some-after_mark-clause-whole c = c.default_alone.ensures.whole

pub returns-in-Some-after_mark-clause-no : goal.returns-in-Some-after_mark-clause-no
returns-in-Some-after_mark-clause-no c = c.default_alone.ensures.no

pub returns-in-None-clause-ok : goal.returns-in-None-clause-ok
returns-in-None-clause-ok c = c.default_and_prefix.ensures.ok

pub returns-in-None-clause-whole : goal.returns-in-None-clause-whole
returns-in-None-clause-whole c = c.default_and_prefix.ensures.whole

pub returns-in-None-clause-no : goal.returns-in-None-clause-no
returns-in-None-clause-no c = c.default_and_prefix.ensures.no
