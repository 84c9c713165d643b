use Rattle.std.specs.Prelude.{codes}
use Rattle.std.proofs.Common.{refl}
use Rattle.tc_model.specs.PathTextPriority.{PriorityText}
use Rattle.tc_model.specs.Views.{name, attribute}
use Rattle.tc_sheet.specs.Readings.{scope_of}
use Rattle.tc_sheet.proofs.Unrefused.{never_refused}
use Rattle.tc_sheet.proofs.NameLaws.{optional_none, optional_read, none_read, optional_malformed}
use Rattle.tc_sheet.proofs.attributes.optional_priority.Goals as goal

pub returns-in_default-clause-ok : goal.returns-in_default-clause-ok
returns-in_default-clause-ok c = optional_none PriorityText c.args.element.now (codes "priority") c.in_default.ensures

pub returns-then-is_none-clause-no : goal.returns-then-is_none-clause-no
returns-then-is_none-clause-no c =
    optional_malformed PriorityText refl c.in-Some.ensures (none_read (PriorityText c.in-Some.attribute.now.value.now) c.read_priority-priority.result c.if-is_none.ensures c.read_priority-priority.ensures)
    (λ why r. never_refused (name c.args.element.now.name) (codes "template") (codes "priority") c.requires refl refl refl refl (scope_of c.args.element.now) (attribute c.in-Some.attribute.now) why c.in-Some.ensures.name r)

pub returns-clause-ok : goal.returns-clause-ok
returns-clause-ok c = optional_read PriorityText c.read_priority-priority.result c.in-Some.ensures c.if-is_none.ensures c.read_priority-priority.ensures

pub returns-in_default-clause-no : goal.returns-in_default-clause-no
returns-in_default-clause-no c = tt

pub returns-then-is_none-clause-ok : goal.returns-then-is_none-clause-ok
returns-then-is_none-clause-ok c = tt

pub returns-clause-no : goal.returns-clause-no
returns-clause-no c = tt
