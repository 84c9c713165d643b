use Rattle.std.proofs.Common.{◌≡◌}
use Rattle.std.specs.Iterator.Adapters.{rev_source}
use Rattle.std.specs.Slice.Iter.{iter_rest}
use Rattle.tc_rnc.specs.Views as seen
use Rattle.tc_rnc.specs.Wildcards.{around}
use Rattle.tc_rnc.proofs.wildcards.within_wildcards.Given as goal

-- what is left to be put around makes the same of what was made so far
abbrev pub invariant-loop-wildcard : goal.invariant-loop-wildcard
invariant-loop-wildcard l = around (iter_rest (rev_source l.wildcard-iterator)) (seen.class l.class) ≡ around l.wildcards (seen.class l.excepted)
