use Rattle.std.proofs.Common.{arith}
use Rattle.tc_simple.proofs.loops.add_marked.Goals as goal

pub bounds-marks-number : goal.bounds-marks-number
bounds-marks-number c = omega (arith, c.requires.within, c.requires.walked.marks)

pub add_loops-requires-clause-within : goal.add_loops-requires-clause-within
add_loops-requires-clause-within c = omega (arith, c.requires.within, c.requires.walked.states)

pub add_loops-requires-clause-numbers : goal.add_loops-requires-clause-numbers
add_loops-requires-clause-numbers c = c.requires.walked.numbers

pub index-requires : goal.index-requires
index-requires c = omega (arith, c.requires.within, c.args.table.now.patterns.ok.0)
