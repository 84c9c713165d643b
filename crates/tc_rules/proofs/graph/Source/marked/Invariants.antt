use Rattle.std.proofs.Common.{◌≡◌}
use Rattle.tc_model.specs.Views as see
use Rattle.tc_rules.specs.Classes.{marked_by, path_states}
use Rattle.tc_rules.specs.Rows.{all_words}
use Rattle.tc_rules.proofs.graph.Source.marked.Given as goal

abbrev pub invariant-loop-marks : goal.invariant-loop-marks
invariant-loop-marks l = path_states (see.alternatives l.path) (all_words l.marked.items) ≡ marked_by l.self.predicates.items (see.alternatives l.path) l.marks
