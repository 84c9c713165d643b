use Rattle.std.proofs.Common.{rules}
use Rattle.tc_auto.proofs.Shown.{shown_as, ref_shown}
use Rattle.tc_auto.proofs.nfa.one_element.Goals as goal

pub returns : goal.returns
returns c = shown_as _ _ _ _ _ _ (ref_shown c.args.pattern) (search rules) (search rules)
