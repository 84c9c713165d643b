use Rattle.tc_graph.specs.Graph.{rows_of}
use Rattle.std.proofs.lemmas.List.{take_all}
use Rattle.tc_simple.proofs.Answered.{failed_ok}
use Rattle.std.proofs.Common.{◌∙◌, ℕ, List, Bor, ap, map}
use Rattle.std.specs.List.{filter_map}
use Rattle.tc_rnc.specs.Views as see
use Rattle.tc_rnc.specs.declared.syntax.SPat.{SPat}
use Rattle.tc_simple.specs.Nodes.{nodes, target}
use Rattle.tc_simple.proofs.Gathering.{pushed_map}
use Rattle.tc_simple.proofs.links.links.Goals as goal

pub loop-pattern-preserved : goal.loop-pattern-preserved
loop-pattern-preserved c =
    let f : SPat → List ℕ = λ p. filter_map (target c.args.table.now) (nodes c.args.within (see.pattern p)) in
    pushed_map (λ (r : Bor (List ℕ)). r.now) f c.loop-pattern.rows.items c.push.new.self.items c.deref-pattern-items.result.now c.loop-pattern.pattern-index c.pattern-item.result c.in_ok-row.row c.loop-pattern-test.true c.loop-pattern.invariant c.in_ok-push.ensures.items
    (c.in_ok-row.ensures ∙ ap f c.pattern-item.is)

pub loop-pattern-init : goal.loop-pattern-init
loop-pattern-init c = ap rows_of c.new-rows.ensures.items

pub returns-in_err-row : goal.returns-in_err-row
returns-in_err-row c = failed_ok c.from_residual.result _ _ c.from_residual.ensures.1

pub returns-in_err-push : goal.returns-in_err-push
returns-in_err-push c = failed_ok c.from_residual-in_err-push.result _ _ c.from_residual-in_err-push.ensures.1

pub returns : goal.returns
returns c =
    let f : SPat → List ℕ = λ p. filter_map (target c.args.table.now) (nodes c.args.within (see.pattern p)) in
    ap rows_of c.into_bump_slice.ensures
    ∙ (c.loop-pattern.invariant ∙ ap (map f) (take_all c.loop-pattern.pattern-index c.deref-pattern-items.result.now c.loop-pattern-test.false ∙ c.deref-pattern-items.ensures.value))
