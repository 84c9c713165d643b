use Rattle.tc_beh.proofs.Hitting.{select_low}
use Rattle.tc_beh.proofs.leads.lead_of.Goals as goal

pub sel_hits-hits-requires : goal.sel_hits-hits-requires
sel_hits-hits-requires c = let (x, rules, letter) = c.requires.letter in select_low x c.args.rules.now rules c.args.state c.requires.state

pub sel_step-below-requires : goal.sel_step-below-requires
sel_step-below-requires c = let (x, rules, letter) = c.requires.letter in select_low x c.args.rules.now rules c.args.state c.requires.state
