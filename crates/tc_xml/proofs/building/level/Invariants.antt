use Rattle.std.proofs.Common.{◌≡◌, map, take}
use Rattle.tc_xml.specs.declared.building.Part.TheVariants.{Done}
use Rattle.tc_xml.proofs.building.level.Given as goal

-- the trees so far
abbrev pub invariant-loop-part : goal.invariant-loop-part
invariant-loop-part l = map Done l.nodes.items ≡ take l.part-index l.parts
