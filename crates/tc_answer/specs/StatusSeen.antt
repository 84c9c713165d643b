-- The number of a status.
use Rattle.std.specs.Prelude.{ℕ}
use Rattle.tc_answer.specs.declared.status.Status.{Status}
use Rattle.tc_answer.specs.declared.status.Status.TheVariants.{Yes, No, Usage, Refused, Limit, ReadFault, WriteFault, NoMemory}

abbrev pub number_of : Status → ℕ
number_of Yes = 0
number_of No = 1
number_of Usage = 2
number_of Refused = 3
number_of Limit = 4
number_of ReadFault = 5
number_of WriteFault = 6
number_of NoMemory = 7
