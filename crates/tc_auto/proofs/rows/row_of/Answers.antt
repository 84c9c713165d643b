use Rattle.std.proofs.Common.{◌++◌, ap, refl, arith, [], ◌∷◌, ◌↔◌, IsTrue, ℕ, List, subst}
use Rattle.std.specs.List.{Contains}
use Rattle.tc_auto.specs.declared.auto.Leaf.TheVariants.{Text}
use Rattle.tc_auto.specs.Steps.{edges_from}
use Rattle.tc_auto.specs.declared.nfa.Transition.{Transition}
use Rattle.tc_auto.specs.declared.auto.Edge.{Edge}
use Rattle.tc_auto.proofs.Loops.{step_inside, all_put, edges_step, item_put}
use Rattle.tc_auto.proofs.rows.row_of.Goals as goal

pub push_edge-requires : goal.push_edge-requires
push_edge-requires c = omega (arith, c.requires.room, step_inside c.args.part.now c.requires.within c.deref-step-items.result.now c.deref-step-items.ensures.value c.loop-step.step-index (record { from = 0; leaf = Text; to = 0 }) c.loop-step-test.true)

pub loop-step-preserved : goal.loop-step-preserved
loop-step-preserved c = item_put (λ (x : Transition). edges_from c.args.base c.args.state (x ∷ [])) (edges_from c.args.base c.args.state) (edges_step c.args.base c.args.state) c.deref-step-items.result.now c.loop-step.step-index _ c.loop-step.edges.items c.push_edge.new.edges.items _ c.loop-step-test.true c.in_ok-push_edge.ensures c.loop-step.invariant

pub returns : goal.returns
returns c = record {
  edges = all_put (edges_from c.args.base c.args.state) refl c.deref-step-items.result.now c.loop-step.step-index c.loop-step.edges.items c.loop-step-test.false c.loop-step.invariant c.args.part.now.steps.items c.deref-step-items.ensures.value;
  accepting = subst (λ (w : List ℕ). IsTrue c.has_state.result ↔ Contains w c.args.state) c.deref.ensures.value c.has_state.ensures;
}

pub loop-step-init : goal.loop-step-init
loop-step-init c = ap (λ (w : List Edge). w ++ edges_from c.args.base c.args.state c.deref-step-items.result.now) c.new-edges.ensures.items
