use Rattle.tc_dead.proofs.CountSteps.{all_spots}
use Rattle.tc_dead.proofs.spots.places.Goals as goal

pub returns : goal.returns
returns c =
    all_spots c.args.sheet.now c.new-spots.result.items c.add_rules.new.spots.items c.add_named.new.spots.items c.add_branches.new.spots.items c.into_bump_slice.result.now c.in_ok-rules.rules c.in_ok-named.named c.in_ok-in_rules.in_rules c.in_ok-branches.branches
    c.in_ok-rules.ensures c.in_ok-named.ensures c.in_ok-in_rules.ensures c.in_ok-branches.ensures c.new-spots.ensures.items c.in_ok-add_rules.ensures c.in_ok-add_named.ensures c.in_ok-add_branches.ensures c.into_bump_slice.ensures
