use Rattle.std.proofs.Common.{◌≡◌, drop}
use Rattle.tc_model.specs.Views as seen
use Rattle.tc_model.proofs.ViewsGrammar.{patterns_then}
use Rattle.tc_dtd.specs.Built as built
use Rattle.tc_dtd.specs.Views as see
use Rattle.tc_dtd.proofs.patterns.+made.Given as goal

-- the patterns so far, and then those that are left
abbrev pub invariant-particle_patterns-loop-one : goal.invariant-particle_patterns-loop-one
invariant-particle_patterns-loop-one l =
    patterns_then (seen.patterns l.out.items) (built.particle_patterns (see.names l.found.keys) (see.particles (drop l.one-index l.particles))) ≡ built.particle_patterns (see.names l.found.keys) (see.particles l.particles)
