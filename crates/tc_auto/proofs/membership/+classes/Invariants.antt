use Rattle.std.proofs.Common.{◌≡◌, drop}
use Rattle.tc_model.specs.Grammars.{in_some_class}
use Rattle.tc_model.specs.Views.{classes, name}
use Rattle.tc_auto.proofs.membership.+classes.Given as goal

abbrev pub invariant-is_in_some_class-loop-member : goal.invariant-is_in_some_class-loop-member
invariant-is_in_some_class-loop-member l = in_some_class (classes (drop l.member-index l.members)) (name l.name) ≡ in_some_class (classes l.members) (name l.name)
