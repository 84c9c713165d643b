use Rattle.std.proofs.Common.{◌≡◌, ◌++◌, drop, flat_map}
use Rattle.tc_alpha.specs.Views.{seen}
use Rattle.tc_model.specs.Symbols.{with_namespace}
use Rattle.tc_alpha.proofs.mentions.with_namespaces.Given as goal

abbrev pub invariant-loop-mention : goal.invariant-loop-mention
invariant-loop-mention l = seen l.all.items ++ flat_map with_namespace (seen (drop l.mention-index l.found)) ≡ flat_map with_namespace (seen l.found)
