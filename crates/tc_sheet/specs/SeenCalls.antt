-- What contracts see of calls and of tables of names.
use Rattle.std.specs.Prelude.{List, map}
use Rattle.tc_model.specs.Names.{ExpandedName}
use Rattle.indexmap.specs.IndexSet.{IndexSet}
use Rattle.tc_model.specs.Views.{name, place}
use Rattle.tc_model.specs.declared.tree.Name.{Name}
use Rattle.tc_model.specs.SheetText as s
use Rattle.tc_sheet.specs.Graphs.{NumberedCall}
use Rattle.tc_sheet.specs.declared.calls.Call.{Call}
use Rattle.tc_sheet.specs.declared.calls.Site.{Site}

abbrev pub site : Site → s.Call
site x = record { name = name x.name; place = place x.place }

abbrev pub call : Call → NumberedCall
call c = record { caller = c.caller; callee = c.callee; place = place c.place }

-- the names of a table, in order
abbrev pub names_seen : {S : Type 0} → IndexSet Name S → List ExpandedName
names_seen t = map name t.keys
