use Rattle.std.proofs.Common.{◌<◌, ◌+◌, List, length, drop, sym, subst, arith}
use Rattle.tc_model.specs.Views as see
use Rattle.tc_model.specs.declared.sheet.Instr.{Instr}
use Rattle.tc_model.proofs.ViewsBody.{body_then}
use Rattle.tc_run.specs.Leaves.{AreAlike}
use Rattle.tc_run.proofs.OnLeaves.{leaf_left_out, leaf_kept, leaf_end, has_kept, alike_element, alike_copy}
use Rattle.tc_run.proofs.leaves.+leaves.Goals as goal

pub leaf_body-loop-one-preserved-then-is_idle_on_leaves : goal.leaf_body-loop-one-preserved-then-is_idle_on_leaves
leaf_body-loop-one-preserved-then-is_idle_on_leaves t c =
    let kept = c.loop-one.kept.items in
    let some : 0 < length kept = grind (arith, c.is_empty.ensures, c.if-not-is_empty.true) in
    leaf_left_out c.args.body.now c.loop-one.one-index c.one-item.result c.loop-one-test.true c.one-item.is kept (see.body c.args.body.now) (has_kept kept some)
    (c.is_idle_on_leaves.ensures c.if-is_idle_on_leaves.true) c.loop-one.invariant

pub leaf_body-loop-one-preserved : goal.leaf_body-loop-one-preserved
leaf_body-loop-one-preserved t c =
    let is = c.args.body.now in
    let k = c.loop-one.one-index in
    subst (λ (js : List Instr). AreAlike (see.body is) (body_then (see.body js) (see.body (drop (k + 1) is)))) (sym c.in_ok-push.ensures.items)
    (leaf_kept is k c.one-item.result c.loop-one-test.true c.one-item.is c.loop-one.kept.items (see.body is) c.in_ok-leaf.leaf c.in_ok-leaf.ensures c.loop-one.invariant)

pub leaf_body-returns : goal.leaf_body-returns
leaf_body-returns t c =
    let is = c.args.body.now in
    let k = c.loop-one.one-index in
    subst (λ (js : List Instr). AreAlike (see.body is) (see.body js)) (sym c.into_bump_slice.ensures)
    (leaf_end is k c.loop-one.kept.items (see.body is) (omega (arith, c.loop-one-test.false)) c.loop-one.invariant)

pub leaf_instruction-returns-in_ok-leaf-in-Elem : goal.leaf_instruction-returns-in_ok-leaf-in-Elem
leaf_instruction-returns-in_ok-leaf-in-Elem t c =
    alike_element c.in-Elem.name c.in-Elem.inner c.in_ok-leaf-in-Elem.leaf c.args.instruction.now c.in-Elem.is c.in_ok-leaf-in-Elem.ensures

pub leaf_instruction-returns-in_ok-leaf-in-Copy : goal.leaf_instruction-returns-in_ok-leaf-in-Copy
leaf_instruction-returns-in_ok-leaf-in-Copy t c = alike_copy c.in-Copy.inner c.in_ok-leaf-in-Copy.leaf c.args.instruction.now c.in-Copy.is c.in_ok-leaf-in-Copy.ensures
