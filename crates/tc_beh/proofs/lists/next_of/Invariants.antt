use Rattle.std.proofs.Common.{◌*◌}
use Rattle.tc_beh.specs.Listing.{LeadsNowhere}
use Rattle.tc_beh.proofs.lists.next_of.Given as goal

abbrev pub invariant-loop-word : goal.invariant-loop-word
invariant-loop-word l = LeadsNowhere l.set l.from l.start (64 * l.word)
