use Rattle.std.proofs.Common.{rules}
use Rattle.tc_auto.proofs.Shown.{shown_as, text_shown}
use Rattle.tc_auto.proofs.nfa.texts.Goals as goal

pub returns : goal.returns
returns c = shown_as _ _ _ _ _ _ text_shown (search rules) (search rules)
