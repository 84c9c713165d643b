use Rattle.tc_run.proofs.OnLeaves.{apply_on_leaf, each_on_leaf, value_on_leaf}
use Rattle.tc_run.proofs.leaves.is_idle_on_leaves.Goals as goal

pub returns-in-Apply : goal.returns-in-Apply
returns-in-Apply c = λ t. apply_on_leaf c.args.instruction.now c.in-Apply.field-0 c.in-Apply.field-1 c.in-Apply.is

pub returns-in-ForEach : goal.returns-in-ForEach
returns-in-ForEach c = λ t. each_on_leaf c.args.instruction.now c.in-ForEach.field-0 c.in-ForEach.field-1 c.in-ForEach.field-2 c.in-ForEach.is

pub returns-in-ValueOf : goal.returns-in-ValueOf
returns-in-ValueOf c = λ t. value_on_leaf c.args.instruction.now c.in-ValueOf.field-0 c.in-ValueOf.is
