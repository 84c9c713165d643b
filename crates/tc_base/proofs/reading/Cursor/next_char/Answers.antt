use Rattle.std.proofs.Common.{arith}
use Rattle.std.proofs.lemmas.Grind.{common_steps, elements}
use Rattle.tc_base.proofs.reading.Cursor.next_char.Goals as goal

pub returns-in_default-clause-end : goal.returns-in_default-clause-end
returns-in_default-clause-end c = tt

pub returns-then-is_empty-clause-end : goal.returns-then-is_empty-clause-end
returns-then-is_empty-clause-end c = grind (arith, common_steps)

pub returns-then-is_empty-clause-only_broken : goal.returns-then-is_empty-clause-only_broken
returns-then-is_empty-clause-only_broken c = grind (arith, common_steps)

pub invariant_of-self : goal.invariant_of-self
invariant_of-self c = grind (arith, common_steps)

pub returns-clause-taken : goal.returns-clause-taken
returns-clause-taken c = grind (arith, elements)

pub returns-clause-within : goal.returns-clause-within
returns-clause-within c = grind (arith, common_steps)
