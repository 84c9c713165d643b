-- Trees that are built piece by piece.
use Rattle.std.specs.Prelude.{List, [], ◌∷◌}
use Rattle.tc_model.specs.Events.{Event, characters, start, end}
use Rattle.tc_model.specs.Names.{ExpandedName}
use Rattle.tc_model.specs.Trees.{Trees, none, text, element, beside}
use Rattle.tc_model.specs.Views.{name, before}
use Rattle.tc_xml.specs.declared.building.Part.{Part}
use Rattle.tc_xml.specs.declared.building.Part.TheVariants.{Done, Open}
use Rattle.tc_xml.specs.declared.building.TreeBuilder.{TreeBuilder}

-- an element that has started, and the trees that stand before it
pub record Level : Type 0 where
  pub name : ExpandedName
  pub outer : Trees

-- the elements that have started, the innermost first, and the trees of the innermost level
pub record Building : Type 0 where
  pub levels : List Level
  pub now : Trees

abbrev pub one_level : Trees → Building
one_level h = record { levels = []; now = h }

abbrev pub end_level : List Level → Trees → Building
end_level [] h = one_level h
end_level (l ∷ levels) h = record { levels = levels; now = beside l.outer (element l.name h none) }

abbrev pub after_event : Building → Event → Building
after_event b (characters s) = record { levels = b.levels; now = beside b.now (text s none) }
after_event b (start n) = record { levels = record { name = n; outer = b.now } ∷ b.levels; now = none }
after_event b end = end_level b.levels b.now

abbrev pub after_part : Building → Part → Building
after_part b (Done node) = record { levels = b.levels; now = beside b.now (before node none) }
after_part b (Open n) = record { levels = record { name = name n; outer = b.now } ∷ b.levels; now = none }

abbrev pub after_parts : Building → List Part → Building
after_parts b [] = b
after_parts b (p ∷ parts) = after_parts (after_part b p) parts

abbrev pub building_of : List Part → Building
building_of parts = after_parts (one_level none) parts

abbrev pub building : TreeBuilder → Building
building b = building_of b.parts.items
