use Rattle.std.proofs.Common.{◌≡◌, ◌++◌, drop, map, Some}
use Rattle.tc_model.specs.SheetTextPhrases.{with_priority}
use Rattle.tc_path.specs.Views.{alternative}
use Rattle.tc_sheet.proofs.templates.with_priority.Given as goal

abbrev pub invariant-loop-alternative : goal.invariant-loop-alternative
invariant-loop-alternative l =
    map alternative l.changed.items ++ with_priority (Some l.priority) (map alternative (drop l.alternative-index l.alternatives)) ≡ with_priority (Some l.priority) (map alternative l.alternatives)
