use Rattle.std.proofs.Common.{sym}
use Rattle.std.specs.Prelude.{codes}
use Rattle.tc_model.specs.Views.{name}
use Rattle.tc_sheet.proofs.Unrefused.{root_unrefused}
use Rattle.tc_sheet.proofs.Refusals.{itself_at}
use Rattle.tc_sheet.specs.Changes.{both}
use Rattle.tc_sheet.proofs.AttributeLaws.{still_none}
use Rattle.tc_sheet.proofs.NameLaws.{version_refused}
use Rattle.tc_sheet.proofs.templates.check_version.Goals as goal

pub returns-in_default-clause-no : goal.returns-in_default-clause-no
returns-in_default-clause-no c = (itself_at c.args.element.now (root_unrefused (name c.args.element.now.name) c.requires), λ olds u g. still_none c.args.element.now (codes "version") c.in_default.ensures both olds u (codes "1.0", g))

pub returns-else-eq-clause-no : goal.returns-else-eq-clause-no
returns-else-eq-clause-no c = version_refused c.args.element.now c.in-Some.attribute.now c.requires c.in-Some.ensures (sym c.if-eq.ensures)

pub returns-in_default-clause-ok : goal.returns-in_default-clause-ok
returns-in_default-clause-ok c = tt

pub returns-else-eq-clause-ok : goal.returns-else-eq-clause-ok
returns-else-eq-clause-ok c = tt
