use Rattle.std.proofs.Common.{take}
use Rattle.tc_model.specs.Views as see
use Rattle.tc_rules.specs.Classes.{AreKindsOf}
use Rattle.tc_rules.proofs.graph.Source.kinds.Given as goal

abbrev pub invariant-loop-name : goal.invariant-loop-name
invariant-loop-name l = AreKindsOf l.self.predicates.items (see.alternatives l.path) (take l.name-index l.self.names.items) l.found
