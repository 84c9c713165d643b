use Rattle.std.proofs.Common.{◌≡◌, ◌++◌, drop}
use Rattle.tc_alpha.specs.Views.{seen}
use Rattle.tc_model.specs.Views as see
use Rattle.tc_model.specs.Symbols.{mentions_in_classes}
use Rattle.tc_alpha.proofs.mentions.+classes.Given as goal

abbrev pub invariant-mention_classes-loop-class : goal.invariant-mention_classes-loop-class
invariant-mention_classes-loop-class l =
    seen l.found.items ++ mentions_in_classes (see.classes (drop l.class-index l.classes)) ≡ seen l.initial.found.items ++ mentions_in_classes (see.classes l.classes)
