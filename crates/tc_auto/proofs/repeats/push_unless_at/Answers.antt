use Rattle.std.proofs.Common.{refl, rules}
use Rattle.std.specs.List.{Contains}
use Rattle.tc_auto.proofs.Gained.{gains_none, gains_one}
use Rattle.tc_auto.proofs.repeats.push_unless_at.Goals as goal

pub returns-in_ok-push : goal.returns-in_ok-push
returns-in_ok-push c = gains_one c.args.steps.now.items c.push.new.self.items c.args.step c.in_ok-push.ensures.items

pub returns-else-not-is_at : goal.returns-else-not-is_at
returns-else-not-is_at c =
    let has : Contains c.args.steps.now.items c.args.step = search rules in
    gains_none c.args.steps.now.items c.args.steps.now.items c.args.step refl has
