use Rattle.std.proofs.Common.{◌≡◌, ◌++◌, drop, map}
use Rattle.std.specs.List.{IsDistinct}
use Rattle.tc_model.specs.Names.{same_name}
use Rattle.tc_model.specs.SheetText as model
use Rattle.tc_sheet.specs.Views.{template}
use Rattle.tc_sheet.specs.SeenCalls.{names_seen}
use Rattle.tc_sheet.proofs.tables.names_of.Given as goal

abbrev pub invariant-loop-template : goal.invariant-loop-template
invariant-loop-template l = record {
  names : names_seen l.names ++ model.names_of (map template (drop l.template-index l.templates)) ≡ model.names_of (map template l.templates);
  once : IsDistinct same_name (names_seen l.names);
}
