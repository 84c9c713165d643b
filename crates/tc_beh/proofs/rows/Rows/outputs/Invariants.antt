use Rattle.std.proofs.Common.{◌≡◌, take}
use Rattle.tc_beh.specs.Outs.{sets_of}
use Rattle.tc_beh.proofs.rows.Rows.outputs.Given as goal

abbrev pub invariant-loop-number : goal.invariant-loop-number
invariant-loop-number l = l.lists ≡ take l.number (sets_of l.self.outputs.matrices)
