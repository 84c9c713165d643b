use Rattle.std.proofs.Common.{◌≡◌, drop, map, flat_map}
use Rattle.tc_model.specs.SheetText as model
use Rattle.tc_sheet.specs.Views.{template}
use Rattle.tc_sheet.specs.SeenCalls.{names_seen}
use Rattle.tc_sheet.specs.Tables.{puts, modes_in}
use Rattle.tc_sheet.proofs.tables.modes_of.Given as goal

abbrev pub invariant-loop-template : goal.invariant-loop-template
invariant-loop-template l =
    puts (names_seen l.modes) (flat_map modes_in (map template (drop l.template-index l.templates))) ≡ model.modes_of (map template l.templates)
