use Rattle.std.proofs.Common.{◌≡◌, map, drop}
use Rattle.tc_model.specs.Views.{bound}
use Rattle.tc_model.specs.XmlTextScopes.{uri_of}
use Rattle.tc_path.proofs.known.uri_among.Given as goal

abbrev pub invariant-loop-binding : goal.invariant-loop-binding
invariant-loop-binding l = uri_of (map bound (drop l.binding-index l.bindings)) l.prefix ≡ uri_of (map bound l.bindings) l.prefix
