use Rattle.std.proofs.Common.{◌≡◌, drop}
use Rattle.tc_model.specs.XmlTextScopes.{uri_of}
use Rattle.tc_xml.specs.Bounds.{bounds}
use Rattle.tc_xml.proofs.bindings.noted.Given as goal

-- the entries so far have other prefixes
abbrev pub invariant-loop-at : goal.invariant-loop-at
invariant-loop-at l = uri_of (bounds (drop l.at l.names.entries)) l.prefix ≡ uri_of (bounds l.names.entries) l.prefix
