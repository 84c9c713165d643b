use Rattle.std.proofs.Common.{◌∙◌, sym, ap, false}
use Rattle.std.specs.List.{list_all}
use Rattle.tc_model.specs.SimplifiesFaults.{may_start}
use Rattle.tc_rnc.specs.Views as see
use Rattle.tc_rnc.proofs.Views.{see_choice}
use Rattle.tc_simple.specs.Nodes.{nodes}
use Rattle.tc_simple.proofs.Below.{never_starts, starts_there}
use Rattle.tc_simple.proofs.loops.+starts.Goals as goal

pub may_start-returns-in-Choice : goal.may_start-returns-in-Choice
may_start-returns-in-Choice t c = c.may_all_start.ensures ∙ ap (λ z. list_all may_start (nodes false z)) (sym (ap see.pattern c.in-Choice.is ∙ see_choice c.in-Choice.ps))

pub may_start-returns-in-NotAllowed : goal.may_start-returns-in-NotAllowed
may_start-returns-in-NotAllowed t c = starts_there c.args.pattern.now c.in-NotAllowed.is

pub may_start-returns-in-NotAllowed-2 : goal.may_start-returns-in-NotAllowed-2
may_start-returns-in-NotAllowed-2 t c = starts_there c.args.pattern.now c.in-NotAllowed.is

pub may_start-returns-in-NotAllowed-3 : goal.may_start-returns-in-NotAllowed-3
may_start-returns-in-NotAllowed-3 t c = starts_there c.args.pattern.now c.in-NotAllowed.is

pub may_start-returns-in_default : goal.may_start-returns-in_default
may_start-returns-in_default t c = never_starts c.args.pattern.now c.in_default.not-NotAllowed c.in_default.not-Ref c.in_default.not-Element c.in_default.not-Choice
