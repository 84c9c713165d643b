use Rattle.std.proofs.Common.{subst}
use Rattle.tc_beh.specs.Machines.{IsMachineCause}
use Rattle.tc_decide.specs.MachinesSeen.{many_calls, many_entries}
use Rattle.tc_decide.proofs.machine.machine_by.Goals as goal

pub returns-in-Err-TooManyCalls-clause-err : goal.returns-in-Err-TooManyCalls-clause-err
returns-in-Err-TooManyCalls-clause-err c = λ x parts.
    many_calls (subst (IsMachineCause x) c.in-Err-TooManyCalls.field-0-is (c.in-Err-TooManyCalls.ensures.cause x parts))

pub returns-in-Err-TooManyEntries-clause-err : goal.returns-in-Err-TooManyEntries-clause-err
returns-in-Err-TooManyEntries-clause-err c = λ x parts.
    let cause = subst (IsMachineCause x) c.in-Err-TooManyEntries.field-0-is (c.in-Err-TooManyEntries.ensures.cause x parts) in
    many_entries cause.0 cause.1
