use Rattle.std.proofs.Common.{◌≡◌, ◌++◌, drop, take, map}
use Rattle.tc_sheet.specs.Graphs.{callee_of, numbered_from, first_undefined}
use Rattle.tc_sheet.specs.SeenCalls.{call, site, names_seen}
use Rattle.tc_sheet.proofs.calls.put_numbered.Given as goal

abbrev pub invariant-loop-site : goal.invariant-loop-site
invariant-loop-site l = record {
  row : l.row.items ≡ map (callee_of (names_seen l.names)) (map site (take l.site-index l.sites));
  put : map call l.calls.items ≡ map call l.fn.calls.items ++ map (numbered_from (names_seen l.names) l.caller) (map site (take l.site-index l.sites));
  first : first_undefined (names_seen l.names) (map site (drop l.site-index l.sites)) ≡ first_undefined (names_seen l.names) (map site l.sites);
}
