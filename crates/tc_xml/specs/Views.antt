-- What contracts see of what is gathered.
use Rattle.std.specs.Prelude.{string_bytes}
use Rattle.tc_model.specs.RawTrees.{RawTrees, beside}
use Rattle.tc_model.specs.Views.{place, raw_trees}
use Rattle.tc_model.specs.XmlTextContent.{characters_before}
use Rattle.tc_xml.specs.declared.content.Run.{Run}
use Rattle.tc_xml.specs.declared.content.Run.TheVariants.{Nothing, Begun}
use Rattle.tc_xml.specs.declared.content.Gathered.{Gathered}

-- the characters of a run before trees
abbrev pub run_before : Run → RawTrees → RawTrees
run_before Nothing h = h
run_before (Begun text first) h = characters_before (string_bytes text) (place first) h

-- what was gathered before trees
abbrev pub gathered_before : Gathered → RawTrees → RawTrees
gathered_before g h = beside (raw_trees g.trees.items) (run_before g.run h)
