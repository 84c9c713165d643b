use Rattle.std.proofs.Common.{rules}
use Rattle.tc_auto.proofs.Shown.{shown_as, empty_shown}
use Rattle.tc_auto.proofs.nfa.nothing_more.Goals as goal

pub returns : goal.returns
returns c = shown_as _ _ _ _ _ _ empty_shown (search rules) (search rules)
