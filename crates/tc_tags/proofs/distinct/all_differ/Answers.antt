use Rattle.tc_tags.proofs.PairLaws.{sorted_told}
use Rattle.tc_tags.proofs.distinct.all_differ.Goals as goal

pub returns : goal.returns
returns c = sorted_told c.neighbours_differ.result c.args.names.now c.sort_unstable.new.self c.sort_unstable.ensures.permutation c.sort_unstable.ensures.sorted c.neighbours_differ.ensures
