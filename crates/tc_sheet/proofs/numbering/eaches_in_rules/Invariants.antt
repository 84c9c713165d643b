use Rattle.std.proofs.Common.{◌≡◌, ◌+◌, drop, filter, map}
use Rattle.tc_model.specs.SheetText.{eaches_of}
use Rattle.tc_model.specs.SheetTextTrees.{makes_rules}
use Rattle.tc_sheet.specs.Views.{template}
use Rattle.tc_sheet.proofs.numbering.eaches_in_rules.Given as goal

abbrev pub invariant-loop-template : goal.invariant-loop-template
invariant-loop-template l = l.count + eaches_of (filter makes_rules (map template (drop l.template-index l.templates))) ≡ eaches_of (filter makes_rules (map template l.templates))
