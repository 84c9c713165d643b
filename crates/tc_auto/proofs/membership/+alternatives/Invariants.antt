use Rattle.std.proofs.Common.{◌≡◌, drop}
use Rattle.tc_model.specs.States.{is_one_alternative}
use Rattle.tc_model.specs.Views.{patterns}
use Rattle.tc_auto.proofs.membership.+alternatives.Given as goal

abbrev pub invariant-has_one_alternative-loop-member : goal.invariant-has_one_alternative-loop-member
invariant-has_one_alternative-loop-member l = is_one_alternative l.number (patterns (drop l.member-index l.members)) ≡ is_one_alternative l.number (patterns l.members)
