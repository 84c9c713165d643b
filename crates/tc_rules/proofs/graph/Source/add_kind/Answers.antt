use Rattle.tc_model.specs.Views as see
use Rattle.tc_rules.specs.Rows.{words}
use Rattle.tc_rules.proofs.PathRows.{kind_added}
use Rattle.tc_rules.proofs.graph.Source.add_kind.Goals as goal

pub returns : goal.returns
returns c = λ names h.
    kind_added c.args.self.now.predicates.items (see.alternatives c.args.path.now) names c.args.name c.args.found.now _ (words c.in_ok-kind.kind) c.in_ok-class.class c.in_ok-kind.ensures
    c.in_ok-class.ensures.keys c.in_ok-class.ensures.place c.in_ok-class.ensures.last c.in_ok-push.ensures.items h
