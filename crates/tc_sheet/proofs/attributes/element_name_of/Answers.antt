use Rattle.std.proofs.Common.{sym, map}
use Rattle.tc_model.specs.Views.{bound}
use Rattle.tc_sheet.proofs.NameLaws.{element_bound, element_unbound, element_nothing}
use Rattle.tc_sheet.proofs.attributes.element_name_of.Goals as goal

pub returns-in-Some : goal.returns-in-Some
returns-in-Some c = element_bound (map bound c.args.scope.now) c.in_ok-prefix.ensures c.in-Some.uri.now c.in-Some.ensures

pub returns-in-None : goal.returns-in-None
returns-in-None c = element_unbound (map bound c.args.scope.now) c.in_ok-prefix.ensures (sym c.if-is_empty.ensures) c.in-None.ensures

pub returns-in-None-2 : goal.returns-in-None-2
returns-in-None-2 c = element_nothing (map bound c.args.scope.now) c.in_ok-prefix.ensures (sym c.if-is_empty.ensures) c.in-None-2.ensures
