use Rattle.tc_decide.proofs.MachineLimits.{size_passes}
use Rattle.tc_decide.proofs.machine.grammar_within_limits.Goals as goal

pub returns-in-TooLarge-clause-err : goal.returns-in-TooLarge-clause-err
returns-in-TooLarge-clause-err c = λ side x read. size_passes side _ x _ _ _ c.in-TooLarge.is read

pub returns-in-TooLarge-clause-err_output : goal.returns-in-TooLarge-clause-err_output
returns-in-TooLarge-clause-err_output c = λ side x read. size_passes side _ x _ _ _ c.in-TooLarge.is read
