use Rattle.std.proofs.Common.{◌≡◌, drop}
use Rattle.tc_model.specs.Views as seen
use Rattle.tc_model.specs.Simplifies.{name_classes}
use Rattle.tc_model.proofs.ViewsGrammar.{classes_then}
use Rattle.tc_rnc.specs.Views as see
use Rattle.tc_simple.proofs.becomes.+classes.Given as goal

abbrev pub invariant-name_classes-loop-class : goal.invariant-name_classes-loop-class
invariant-name_classes-loop-class l = classes_then (seen.classes l.out.items) (name_classes (see.classes (drop l.class-index l.classes))) ≡ name_classes (see.classes l.classes)
