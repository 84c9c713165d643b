use Rattle.std.proofs.Common.{◌≡◌, List, take}
use Rattle.tc_model.specs.XmlTextScopes.{WrittenAttribute}
use Rattle.tc_tags.specs.Written.{AreWritten, AreKept, Adds}
use Rattle.tc_tags.proofs.rooms.add_all.Given as goal

abbrev pub invariant-loop-attribute : goal.invariant-loop-attribute
invariant-loop-attribute l = record {
  most : l.names.most ≡ l.fn.names.most;
  kept : AreKept l.names.bytes.items l.scopes.declared.items l.scopes.chains.chains;
  added : (ws : List WrittenAttribute) → AreWritten l.tag l.list ws → Adds (take l.attribute-index ws) l.fn.names.bytes.items l.names.bytes.items l.fn.scopes.declared.items l.scopes.declared.items;
}
