use Rattle.std.proofs.Common.{◌∙◌, ◌++◌, sym, ap, refl, map, true}
use Rattle.std.proofs.lemmas.List.{append-nil}
use Rattle.tc_graph.proofs.Tops.{on_ok}
use Rattle.tc_simple.specs.Nodes.{element_of, see_element}
use Rattle.tc_simple.proofs.Answered.{found_next, failed_on, found_all}
use Rattle.tc_simple.proofs.Below.{past_references, in_part, in_parts, element_found, element_skips}
use Rattle.tc_simple.proofs.elements.+elements.Goals as goal

pub add_all_elements-loop-pattern-preserved : goal.add_all_elements-loop-pattern-preserved
add_all_elements-loop-pattern-preserved t c =
    found_next element_of true c.args.patterns.now c.loop-pattern.pattern-index c.pattern-item.result (map see_element c.loop-pattern.found.items) (map see_element c.add_elements.new.found.items) c.loop-pattern-test.true
    c.pattern-item.is c.in_ok-add_elements.ensures
    ∙ c.loop-pattern.invariant

pub add_elements-returns-in-Empty : goal.add_elements-returns-in-Empty
add_elements-returns-in-Empty t c = sym (ap (λ z. map see_element c.args.found.now.items ++ z) (past_references element_of element_skips (λ n k. refl) true c.args.pattern.now c.in-Empty.is) ∙ append-nil (map see_element c.args.found.now.items))

pub add_elements-returns-in_ok-push-in-Element : goal.add_elements-returns-in_ok-push-in-Element
add_elements-returns-in_ok-push-in-Element t c =
    on_ok c.add_elements.result (element_found c.args.found.now.items c.push.new.self.items c.args.pattern.now _ _ _ c.in-Element.is c.in_ok-push-in-Element.ensures.items) c.add_elements.ensures

pub add_elements-returns-in-Mixed : goal.add_elements-returns-in-Mixed
add_elements-returns-in-Mixed t c =
    on_ok c.add_elements-in-Mixed.result (λ e. e ∙ ap (λ z. map see_element c.args.found.now.items ++ z) (sym (in_part (element_of) element_skips true c.args.pattern.now c.in-Mixed.p c.in-Mixed.is))) c.add_elements-in-Mixed.ensures

pub add_elements-returns-in-Group : goal.add_elements-returns-in-Group
add_elements-returns-in-Group t c =
    on_ok c.add_all_elements.result (λ e. e ∙ ap (λ z. map see_element c.args.found.now.items ++ z) (sym (in_parts (element_of) element_skips true c.args.pattern.now c.in-Group.ps c.in-Group.is))) c.add_all_elements.ensures

pub add_elements-returns-in-Empty-2 : goal.add_elements-returns-in-Empty-2
add_elements-returns-in-Empty-2 t c = sym (ap (λ z. map see_element c.args.found.now.items ++ z) (past_references element_of element_skips (λ n k. refl) true c.args.pattern.now c.in-Empty.is) ∙ append-nil (map see_element c.args.found.now.items))

pub add_elements-returns-in-Empty-3 : goal.add_elements-returns-in-Empty-3
add_elements-returns-in-Empty-3 t c = sym (ap (λ z. map see_element c.args.found.now.items ++ z) (past_references element_of element_skips (λ n k. refl) true c.args.pattern.now c.in-Empty.is) ∙ append-nil (map see_element c.args.found.now.items))

pub add_elements-returns-in-Empty-4 : goal.add_elements-returns-in-Empty-4
add_elements-returns-in-Empty-4 t c = sym (ap (λ z. map see_element c.args.found.now.items ++ z) (past_references element_of element_skips (λ n k. refl) true c.args.pattern.now c.in-Empty.is) ∙ append-nil (map see_element c.args.found.now.items))

pub add_elements-returns-in-Empty-5 : goal.add_elements-returns-in-Empty-5
add_elements-returns-in-Empty-5 t c = sym (ap (λ z. map see_element c.args.found.now.items ++ z) (past_references element_of element_skips (λ n k. refl) true c.args.pattern.now c.in-Empty.is) ∙ append-nil (map see_element c.args.found.now.items))

pub add_all_elements-loop-pattern-init : goal.add_all_elements-loop-pattern-init
add_all_elements-loop-pattern-init t c = refl

pub add_all_elements-returns-in_err-add_elements : goal.add_all_elements-returns-in_err-add_elements
add_all_elements-returns-in_err-add_elements t c = failed_on c.from_residual.result _ _ c.from_residual.ensures.1

pub add_all_elements-returns : goal.add_all_elements-returns
add_all_elements-returns t c = found_all element_of true c.args.patterns.now c.loop-pattern.pattern-index (map see_element c.loop-pattern.found.items) _ c.loop-pattern-test.false c.loop-pattern.invariant

pub add_elements-returns-in_err-push-in-Element : goal.add_elements-returns-in_err-push-in-Element
add_elements-returns-in_err-push-in-Element t c = failed_on c.from_residual.result _ _ c.from_residual.ensures.1
