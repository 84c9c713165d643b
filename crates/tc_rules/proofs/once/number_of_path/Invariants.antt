use Rattle.std.proofs.Common.{◌≡◌, ◌+◌, drop}
use Rattle.tc_model.specs.Numbered.{number_of}
use Rattle.tc_model.specs.SameTests.{same_path}
use Rattle.tc_model.specs.Views as see
use Rattle.tc_rules.specs.Views.{looks}
use Rattle.tc_rules.proofs.once.number_of_path.Given as goal

abbrev pub invariant-loop-i : goal.invariant-loop-i
invariant-loop-i l =
    number_of same_path (see.path l.path) (looks l.numbered) ≡ number_of same_path (see.path l.path) (looks (drop l.i l.numbered)) + l.i
