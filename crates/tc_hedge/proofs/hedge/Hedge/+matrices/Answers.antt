use Rattle.std.proofs.Common.{ap, ◌∙◌, sym, subst}
use Rattle.std.proofs.lemmas.Result.{IfOk-from_err}
use Rattle.tc_model.specs.Trees.{none}
use Rattle.tc_model.specs.Views as see
use Rattle.tc_model.specs.States.{output}
use Rattle.tc_model.specs.declared.tree.Node.{Node}
use Rattle.tc_model.proofs.Views.{before_text, before_elem}
use Rattle.tc_hedge.specs.Leading.{ArePairsOf}
use Rattle.tc_hedge.proofs.Gathers.{for_ok}
use Rattle.tc_hedge.proofs.Leading.{pairs_surround}
use Rattle.tc_hedge.proofs.Sides.{nothing_led, tree_more, all_trees, outputs_told}
use Rattle.tc_hedge.proofs.hedge.Hedge.+matrices.Goals as goal

pub matrix_of-loop-node-init : goal.matrix_of-loop-node-init
matrix_of-loop-node-init t c =
    let size = c.in_ok-led.ensures.size ∙ c.states.ensures.here in
    (size, c.in_ok-led.ensures.matrix, λ side x st. nothing_led x side c.args.self.now.auto st c.in_ok-led.led size c.in_ok-led.ensures.pairs)

pub matrix_of-loop-node-preserved : goal.matrix_of-loop-node-preserved
matrix_of-loop-node-preserved t c = (
  c.in_ok-led-2.ensures.size ∙ c.loop-node.invariant.0,
  c.in_ok-led-2.ensures.matrix,
  λ side x st.
      tree_more x side c.args.nodes.now c.loop-node.node-index c.node-item.result c.loop-node.led c.in_ok-one.one c.in_ok-led-2.led c.loop-node-test.true c.node-item.is
      (c.loop-node.invariant.2 side x st) (c.in_ok-one.ensures.pairs side x st) c.in_ok-led-2.ensures.pairs,
)

pub matrix_of-returns-clause-pairs : goal.matrix_of-returns-clause-pairs
matrix_of-returns-clause-pairs t c = λ side x st. all_trees x side c.args.nodes.now c.loop-node.node-index c.loop-node.led c.loop-node-test.false (c.loop-node.invariant.2 side x st)

pub matrix_of-returns-clause-output : goal.matrix_of-returns-clause-output
matrix_of-returns-clause-output t c = λ x st.
    outputs_told x (see.trees c.args.nodes.now) c.loop-node.led (all_trees x output c.args.nodes.now c.loop-node.node-index c.loop-node.led c.loop-node-test.false (c.loop-node.invariant.2 output x st))

pub matrix_of_tree-returns-in-Text-clause-pairs : goal.matrix_of_tree-returns-in-Text-clause-pairs
matrix_of_tree-returns-in-Text-clause-pairs t c =
    let is = ap (λ (n : Node). see.before n none) c.in-Text.is ∙ before_text c.in-Text.text none in
    for_ok c.matrix_of_text.result c.matrix_of_text.ensures.pairs (λ m pairs side x st. subst (λ h. ArePairsOf x side h m) (sym is) (pairs side x st))

pub matrix_of_tree-returns-in_ok-inner-in-Elem-clause-pairs : goal.matrix_of_tree-returns-in_ok-inner-in-Elem-clause-pairs
matrix_of_tree-returns-in_ok-inner-in-Elem-clause-pairs t c =
    let is = ap (λ (n : Node). see.before n none) c.in-Elem.is ∙ before_elem c.in-Elem.name c.in-Elem.kids none in
    for_ok c.matrix_around.result c.matrix_around.ensures.pairs
    (λ m around side x st.
    subst (λ h. ArePairsOf x side h m) (sym is)
    (pairs_surround x side (see.name c.in-Elem.name) (see.trees c.in-Elem.kids.now) c.in_ok-inner-in-Elem.inner m (c.in_ok-inner-in-Elem.ensures.pairs side x st) (around side x st)))

pub matrix_of-composition-requires : goal.matrix_of-composition-requires
matrix_of-composition-requires t c = c.loop-node.invariant.0 ∙ sym c.in_ok-one.ensures.size

pub matrix_of-returns-clause-size : goal.matrix_of-returns-clause-size
matrix_of-returns-clause-size t c = c.loop-node.invariant.0

pub matrix_of-returns-clause-matrix : goal.matrix_of-returns-clause-matrix
matrix_of-returns-clause-matrix t c = c.loop-node.invariant.1

pub matrix_of_tree-returns-in-Text-clause-size : goal.matrix_of_tree-returns-in-Text-clause-size
matrix_of_tree-returns-in-Text-clause-size t c = c.matrix_of_text.ensures.size

pub matrix_of_tree-returns-in-Text-clause-matrix : goal.matrix_of_tree-returns-in-Text-clause-matrix
matrix_of_tree-returns-in-Text-clause-matrix t c = c.matrix_of_text.ensures.matrix

pub matrix_of_tree-matrix_around-requires : goal.matrix_of_tree-matrix_around-requires
matrix_of_tree-matrix_around-requires t c = c.in_ok-inner-in-Elem.ensures.size

pub matrix_of_tree-returns-in_ok-inner-in-Elem-clause-size : goal.matrix_of_tree-returns-in_ok-inner-in-Elem-clause-size
matrix_of_tree-returns-in_ok-inner-in-Elem-clause-size t c = c.matrix_around.ensures.size

pub matrix_of_tree-returns-in_ok-inner-in-Elem-clause-matrix : goal.matrix_of_tree-returns-in_ok-inner-in-Elem-clause-matrix
matrix_of_tree-returns-in_ok-inner-in-Elem-clause-matrix t c = c.matrix_around.ensures.matrix

pub matrix_of-returns-in_err-led-clause-size : goal.matrix_of-returns-in_err-led-clause-size
matrix_of-returns-in_err-led-clause-size t c = IfOk-from_err c.from_residual.result _ c.from_residual.ensures.0

pub matrix_of-returns-in_err-led-clause-matrix : goal.matrix_of-returns-in_err-led-clause-matrix
matrix_of-returns-in_err-led-clause-matrix t c = IfOk-from_err c.from_residual.result _ c.from_residual.ensures.0

pub matrix_of-returns-in_err-led-clause-pairs : goal.matrix_of-returns-in_err-led-clause-pairs
matrix_of-returns-in_err-led-clause-pairs t c = IfOk-from_err c.from_residual.result _ c.from_residual.ensures.0

pub matrix_of-returns-in_err-led-clause-output : goal.matrix_of-returns-in_err-led-clause-output
matrix_of-returns-in_err-led-clause-output t c = IfOk-from_err c.from_residual.result _ c.from_residual.ensures.0

pub matrix_of-returns-in_err-one-clause-size : goal.matrix_of-returns-in_err-one-clause-size
matrix_of-returns-in_err-one-clause-size t c = IfOk-from_err c.from_residual-in_err-one.result _ c.from_residual-in_err-one.ensures.0

pub matrix_of-returns-in_err-one-clause-matrix : goal.matrix_of-returns-in_err-one-clause-matrix
matrix_of-returns-in_err-one-clause-matrix t c = IfOk-from_err c.from_residual-in_err-one.result _ c.from_residual-in_err-one.ensures.0

pub matrix_of-returns-in_err-one-clause-pairs : goal.matrix_of-returns-in_err-one-clause-pairs
matrix_of-returns-in_err-one-clause-pairs t c = IfOk-from_err c.from_residual-in_err-one.result _ c.from_residual-in_err-one.ensures.0

pub matrix_of-returns-in_err-one-clause-output : goal.matrix_of-returns-in_err-one-clause-output
matrix_of-returns-in_err-one-clause-output t c = IfOk-from_err c.from_residual-in_err-one.result _ c.from_residual-in_err-one.ensures.0

pub matrix_of-returns-in_err-led-2-clause-size : goal.matrix_of-returns-in_err-led-2-clause-size
matrix_of-returns-in_err-led-2-clause-size t c = IfOk-from_err c.from_residual-in_err-led-2.result _ c.from_residual-in_err-led-2.ensures.0

pub matrix_of-returns-in_err-led-2-clause-matrix : goal.matrix_of-returns-in_err-led-2-clause-matrix
matrix_of-returns-in_err-led-2-clause-matrix t c = IfOk-from_err c.from_residual-in_err-led-2.result _ c.from_residual-in_err-led-2.ensures.0

pub matrix_of-returns-in_err-led-2-clause-pairs : goal.matrix_of-returns-in_err-led-2-clause-pairs
matrix_of-returns-in_err-led-2-clause-pairs t c = IfOk-from_err c.from_residual-in_err-led-2.result _ c.from_residual-in_err-led-2.ensures.0

pub matrix_of-returns-in_err-led-2-clause-output : goal.matrix_of-returns-in_err-led-2-clause-output
matrix_of-returns-in_err-led-2-clause-output t c = IfOk-from_err c.from_residual-in_err-led-2.result _ c.from_residual-in_err-led-2.ensures.0

pub matrix_of_tree-returns-in_err-inner-in-Elem-clause-size : goal.matrix_of_tree-returns-in_err-inner-in-Elem-clause-size
matrix_of_tree-returns-in_err-inner-in-Elem-clause-size t c = IfOk-from_err c.from_residual.result _ c.from_residual.ensures.0

pub matrix_of_tree-returns-in_err-inner-in-Elem-clause-matrix : goal.matrix_of_tree-returns-in_err-inner-in-Elem-clause-matrix
matrix_of_tree-returns-in_err-inner-in-Elem-clause-matrix t c = IfOk-from_err c.from_residual.result _ c.from_residual.ensures.0

pub matrix_of_tree-returns-in_err-inner-in-Elem-clause-pairs : goal.matrix_of_tree-returns-in_err-inner-in-Elem-clause-pairs
matrix_of_tree-returns-in_err-inner-in-Elem-clause-pairs t c = IfOk-from_err c.from_residual.result _ c.from_residual.ensures.0
