use Rattle.std.proofs.Common.{sym, map}
use Rattle.tc_model.specs.Views.{bound}
use Rattle.tc_sheet.proofs.NameLaws.{name_without, name_with, name_nothing}
use Rattle.tc_sheet.proofs.attributes.name_of.Goals as goal

pub returns-then-is_empty : goal.returns-then-is_empty
returns-then-is_empty c = name_without (map bound c.args.scope.now) c.in_ok-prefix.ensures (sym c.if-is_empty.ensures)

pub returns-in-None : goal.returns-in-None
returns-in-None c = name_nothing (map bound c.args.scope.now) c.in_ok-prefix.ensures (sym c.if-is_empty.ensures) c.in-None.ensures

pub returns-in-Some : goal.returns-in-Some
returns-in-Some c = name_with (map bound c.args.scope.now) c.in_ok-prefix.ensures c.in-Some.uri.now (sym c.if-is_empty.ensures) c.in-Some.ensures
