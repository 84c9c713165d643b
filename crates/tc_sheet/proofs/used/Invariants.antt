use Rattle.std.proofs.Common.{◌≡◌, ◌++◌, drop, map}
use Rattle.std.specs.Prelude.{filter}
use Rattle.tc_model.specs.SheetTextTrees.{is_used}
use Rattle.tc_sheet.specs.Views.{template}
use Rattle.tc_sheet.proofs.used.Given as goal

abbrev pub invariant-loop-template : goal.invariant-loop-template
invariant-loop-template l = map template l.found.items ++ filter is_used (map template (drop l.template-index l.templates)) ≡ filter is_used (map template l.templates)
