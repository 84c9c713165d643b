use Rattle.std.proofs.Common.{refl}
use Rattle.tc_model.specs.Views as see
use Rattle.tc_rules.proofs.PathRows.{letters_are}
use Rattle.tc_rules.proofs.graph.Source.letters.Goals as goal

pub returns : goal.returns
returns c =
    letters_are c.args.self.now.predicates.items (see.alternatives c.args.path.now) c.args.self.now.sets c.args.self.now.names.items _ c.in_ok-classes.field-0 c.in_ok-ends.ensures c.in_ok-deep.ensures c.in_ok-inner.ensures
    c.in_ok-text.ensures c.in_ok-marked.ensures c.in_ok-classes.ensures refl refl
