use Rattle.std.proofs.Common.{◌≤◌, List, length, subst}
use Rattle.std.proofs.lemmas.List.{take_all}
use Rattle.tc_model.specs.Views as see
use Rattle.tc_model.specs.declared.tree.Name.{Name}
use Rattle.tc_rules.specs.Classes.{AreKindsOf}
use Rattle.tc_rules.proofs.PathRows.{kinds_go, none_kinds}
use Rattle.tc_rules.proofs.graph.Source.kinds.Goals as goal

pub loop-name-preserved : goal.loop-name-preserved
loop-name-preserved c =
    kinds_go c.args.self.now.predicates.items (see.alternatives c.args.path.now) c.args.self.now.names.items c.deref-name-items.result.now c.deref-name-items.ensures.value c.loop-name.name-index _
    c.loop-name.found c.add_kind.new.found c.loop-name-test.true c.in_ok-add_kind.ensures c.loop-name.invariant

pub loop-name-init : goal.loop-name-init
loop-name-init c = none_kinds c.args.self.now.predicates.items (see.alternatives c.args.path.now) _ c.new.ensures.items c.new-2.ensures.empty

pub returns : goal.returns
returns c =
    let names = c.args.self.now.names.items in
    let i = c.loop-name.name-index in
    let past : length names ≤ i = subst (λ (l : List Name). length l ≤ i) c.deref-name-items.ensures.value c.loop-name-test.false in
    subst (λ (l : List Name). AreKindsOf c.args.self.now.predicates.items (see.alternatives c.args.path.now) l c.loop-name.found) (take_all i names past) c.loop-name.invariant
