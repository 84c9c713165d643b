use Rattle.std.proofs.Common.{List, ◌++◌, map, ap, refl}
use Rattle.tc_rules.specs.MoveTables.{move_on}
use Rattle.tc_rules.specs.Views.{moves, looks}
use Rattle.tc_rules.specs.declared.walk.Move.{Move}
use Rattle.tc_rules.proofs.MoveTables.{one_look, all_looked}
use Rattle.tc_rules.proofs.move_table.moves_on.Goals as goal

pub loop-path-init : goal.loop-path-init
loop-path-init c = ap (λ (w : List Move). moves 0 w ++ map move_on (looks c.args.looked.now)) c.new-found.ensures.items

pub loop-path-preserved : goal.loop-path-preserved
loop-path-preserved c =
    one_look (map move_on (looks c.args.looked.now)) c.loop-path.found.items c.push.new.self.items c.args.looked.now c.loop-path.path-index _ _ c.loop-path-test.true c.in_ok-push.ensures.items refl c.loop-path.invariant

pub returns : goal.returns
returns c = all_looked c.loop-path.found.items c.args.looked.now c.loop-path.path-index c.loop-path-test.false c.loop-path.invariant
