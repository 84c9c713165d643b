use Rattle.std.proofs.Common.{◌≡◌, drop}
use Rattle.tc_dtd.specs.Views as see
use Rattle.tc_dtd.specs.Sizes.{two, sizes_of}
use Rattle.tc_dtd.proofs.sizes.+sizes.Given as goal

abbrev pub invariant-measure_all-loop-particle : goal.invariant-measure_all-loop-particle
invariant-measure_all-loop-particle l = two l.all (sizes_of (see.particles (drop l.particle-index l.particles))) ≡ two (record { nodes = 0; depth = 0 }) (sizes_of (see.particles l.particles))
