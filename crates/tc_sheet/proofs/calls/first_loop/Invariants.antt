use Rattle.std.proofs.Common.{◌≡◌, drop, map}
use Rattle.tc_sheet.specs.Graphs.{first_back}
use Rattle.tc_sheet.specs.SeenCalls.{call}
use Rattle.tc_sheet.proofs.calls.first_loop.Given as goal

abbrev pub invariant-loop-call : goal.invariant-loop-call
invariant-loop-call l = first_back l.walk.states.items (map call (drop l.call-index l.calls)) ≡ first_back l.walk.states.items (map call l.calls)
