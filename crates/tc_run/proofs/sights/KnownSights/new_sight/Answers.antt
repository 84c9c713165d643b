use Rattle.tc_rules.proofs.Counts.{some_look_counted}
use Rattle.tc_run.specs.Running.{symbols_by, told_by}
use Rattle.tc_run.proofs.sights.KnownSights.new_sight.Goals as goal

pub sel_hits-requires : goal.sel_hits-requires
sel_hits-requires c = some_look_counted (told_by c.args.runner.now) c.args.look c.requires.look

pub returns-clause-known : goal.returns-clause-known
returns-clause-known c =
    let r = c.args.runner.now in
    c.remember.ensures r c.requires.known (record { hit = λ b y at. c.sel_hits.ensures (symbols_by r) b y c.requires.runner c.requires.letter at; below = c.below.ensures })
