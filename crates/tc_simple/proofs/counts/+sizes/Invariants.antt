use Rattle.std.proofs.Common.{◌≡◌, drop}
use Rattle.tc_rnc.specs.Views as see
use Rattle.tc_simple.specs.Sizes.{two, sizes_of, size_in}
use Rattle.tc_simple.proofs.counts.+sizes.Given as goal

abbrev pub invariant-measure_all-loop-pattern : goal.invariant-measure_all-loop-pattern
invariant-measure_all-loop-pattern l =
    two l.all (sizes_of (size_in l.table l.sizes) (see.patterns (drop l.pattern-index l.patterns))) ≡ two (record { nodes = 0; depth = 0 }) (sizes_of (size_in l.table l.sizes) (see.patterns l.patterns))
