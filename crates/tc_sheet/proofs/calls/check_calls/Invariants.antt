use Rattle.std.proofs.Common.{◌≡◌, ◌++◌, drop, map}
use Rattle.tc_graph.specs.Graph.{rows_of}
use Rattle.tc_sheet.specs.Graphs.{callees, numbered_calls, first_undefined, all_calls}
use Rattle.tc_sheet.specs.Views.{template}
use Rattle.tc_sheet.specs.SeenCalls.{call, names_seen}
use Rattle.tc_sheet.proofs.calls.check_calls.Given as goal

abbrev pub invariant-loop-template : goal.invariant-loop-template
invariant-loop-template l = record {
  rows : rows_of l.rows.items ++ callees (names_seen l.names) (map template (drop l.template-index l.templates)) ≡ callees (names_seen l.names) (map template l.templates);
  put : map call l.calls.items ++ numbered_calls (names_seen l.names) (map template (drop l.template-index l.templates)) ≡ numbered_calls (names_seen l.names) (map template l.templates);
  first : first_undefined (names_seen l.names) (all_calls (map template (drop l.template-index l.templates))) ≡ first_undefined (names_seen l.names) (all_calls (map template l.templates));
}
