use Rattle.std.proofs.Common.{◌≡◌, ◌++◌, drop}
use Rattle.std.specs.List.{filter_map}
use Rattle.tc_dtd.specs.Declarations.{names_in_all}
use Rattle.tc_dtd.specs.Numbers.{number_in}
use Rattle.tc_dtd.specs.Views as see
use Rattle.tc_dtd.proofs.links.+links.Given as goal

abbrev pub invariant-add_all_links-loop-particle : goal.invariant-add_all_links-loop-particle
invariant-add_all_links-loop-particle l =
    l.row.items ++ filter_map (number_in (see.names l.found.keys)) (names_in_all (see.particles (drop l.particle-index l.particles)))
    ≡ l.initial.row.items ++ filter_map (number_in (see.names l.found.keys)) (names_in_all (see.particles l.particles))
