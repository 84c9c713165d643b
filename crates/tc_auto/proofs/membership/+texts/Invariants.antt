use Rattle.std.proofs.Common.{◌≡◌, drop}
use Rattle.tc_model.specs.Grammars.{have_text}
use Rattle.tc_model.specs.Views.{patterns}
use Rattle.tc_auto.proofs.membership.+texts.Given as goal

abbrev pub invariant-is_some_with_text-loop-member : goal.invariant-is_some_with_text-loop-member
invariant-is_some_with_text-loop-member l = have_text (patterns (drop l.member-index l.members)) ≡ have_text (patterns l.members)
