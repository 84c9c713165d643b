use Rattle.std.proofs.Common.{◌≡◌, ◌++◌, drop}
use Rattle.std.specs.List.{filter_map}
use Rattle.tc_dtd.specs.Numbers.{number_in}
use Rattle.tc_dtd.specs.Views as see
use Rattle.tc_dtd.proofs.links.add_names.Given as goal

abbrev pub invariant-loop-name : goal.invariant-loop-name
invariant-loop-name l =
    l.row.items ++ filter_map (number_in (see.names l.found.keys)) (see.names (drop l.name-index l.names))
    ≡ l.initial.row.items ++ filter_map (number_in (see.names l.found.keys)) (see.names l.names)
