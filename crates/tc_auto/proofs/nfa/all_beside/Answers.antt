use Rattle.std.proofs.Common.{rules, arith}
use Rattle.tc_auto.proofs.nfa.all_beside.Goals as goal

pub push_all_beside_first-requires-clause-room : goal.push_all_beside_first-requires-clause-room
push_all_beside_first-requires-clause-room c = omega (arith, c.requires.room)

pub returns : goal.returns
returns c = search rules
