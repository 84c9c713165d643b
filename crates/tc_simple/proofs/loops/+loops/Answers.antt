use Rattle.std.proofs.Common.{◌∙◌, ◌++◌, sym, ap, refl, map, false}
use Rattle.std.proofs.lemmas.List.{append-nil, map_push}
use Rattle.tc_graph.proofs.Tops.{on_ok}
use Rattle.tc_model.specs.Views.{place}
use Rattle.tc_simple.specs.Nodes.{loop_at}
use Rattle.tc_simple.proofs.Answered.{found_next, failed_on, found_all}
use Rattle.tc_simple.proofs.Below.{past_elements, in_part, in_parts, loop_nowhere, loop_passed, loop_skips, loop_taken}
use Rattle.tc_simple.proofs.loops.+loops.Goals as goal

pub add_all_loops-loop-pattern-preserved : goal.add_all_loops-loop-pattern-preserved
add_all_loops-loop-pattern-preserved t c =
    found_next (loop_at c.args.table.now c.args.walk.now.states.items c.args.number) false c.args.patterns.now c.loop-pattern.pattern-index c.pattern-item.result (map place c.loop-pattern.found.items) (map place c.add_loops.new.found.items)
    c.loop-pattern-test.true c.pattern-item.is c.in_ok-add_loops.ensures
    ∙ c.loop-pattern.invariant

pub add_loops-returns-in-Empty : goal.add_loops-returns-in-Empty
add_loops-returns-in-Empty t c = sym (ap (λ z. map place c.args.found.now.items ++ z) (past_elements (loop_at c.args.table.now c.args.walk.now.states.items c.args.number) (loop_skips c.args.table.now c.args.walk.now.states.items c.args.number) (λ x k p. refl) c.args.pattern.now c.in-Empty.is) ∙ append-nil (map place c.args.found.now.items))

pub add_loops-returns-in-Mixed : goal.add_loops-returns-in-Mixed
add_loops-returns-in-Mixed t c =
    on_ok c.add_loops.result (λ e. e ∙ ap (λ z. map place c.args.found.now.items ++ z) (sym (in_part (loop_at c.args.table.now c.args.walk.now.states.items c.args.number) (loop_skips c.args.table.now c.args.walk.now.states.items c.args.number) false c.args.pattern.now c.in-Mixed.p c.in-Mixed.is))) c.add_loops.ensures

pub add_loops-returns-in-Group : goal.add_loops-returns-in-Group
add_loops-returns-in-Group t c =
    on_ok c.add_all_loops.result (λ e. e ∙ ap (λ z. map place c.args.found.now.items ++ z) (sym (in_parts (loop_at c.args.table.now c.args.walk.now.states.items c.args.number) (loop_skips c.args.table.now c.args.walk.now.states.items c.args.number) false c.args.pattern.now c.in-Group.ps c.in-Group.is))) c.add_all_loops.ensures

pub add_loops-returns-in_ok-push-in-Ref : goal.add_loops-returns-in_ok-push-in-Ref
add_loops-returns-in_ok-push-in-Ref t c =
    ap (map place) c.in_ok-push-in-Ref.ensures.items
    ∙ (map_push place c.args.found.now.items c.in-Ref.place
    ∙ ap (λ z. map place c.args.found.now.items ++ z) (sym (loop_taken c.args.pattern.now c.in-Ref.name c.in-Ref.place c.in-Ref.is c.args.table.now c.args.walk.now.states.items c.args.number c.in-Some.other (sym c.number.ensures ∙ c.in-Some.is) (sym c.joins.ensures ∙ c.if-joins.true))))

pub add_loops-returns-else-joins : goal.add_loops-returns-else-joins
add_loops-returns-else-joins t c =
    sym (ap (λ z. map place c.args.found.now.items ++ z) (loop_passed c.args.pattern.now c.in-Ref.name c.in-Ref.place c.in-Ref.is c.args.table.now c.args.walk.now.states.items c.args.number c.in-Some.other (sym c.number.ensures ∙ c.in-Some.is) (sym c.joins.ensures ∙ c.if-joins.false)) ∙ append-nil (map place c.args.found.now.items))

pub add_loops-returns-in_default : goal.add_loops-returns-in_default
add_loops-returns-in_default t c = sym (ap (λ z. map place c.args.found.now.items ++ z) (loop_nowhere c.args.pattern.now c.in-Ref.name c.in-Ref.place c.in-Ref.is c.args.table.now c.args.walk.now.states.items c.args.number (sym c.number.ensures ∙ c.in_default.is)) ∙ append-nil (map place c.args.found.now.items))

pub add_loops-returns-in-Empty-2 : goal.add_loops-returns-in-Empty-2
add_loops-returns-in-Empty-2 t c = sym (ap (λ z. map place c.args.found.now.items ++ z) (past_elements (loop_at c.args.table.now c.args.walk.now.states.items c.args.number) (loop_skips c.args.table.now c.args.walk.now.states.items c.args.number) (λ x k p. refl) c.args.pattern.now c.in-Empty.is) ∙ append-nil (map place c.args.found.now.items))

pub add_loops-returns-in-Empty-3 : goal.add_loops-returns-in-Empty-3
add_loops-returns-in-Empty-3 t c = sym (ap (λ z. map place c.args.found.now.items ++ z) (past_elements (loop_at c.args.table.now c.args.walk.now.states.items c.args.number) (loop_skips c.args.table.now c.args.walk.now.states.items c.args.number) (λ x k p. refl) c.args.pattern.now c.in-Empty.is) ∙ append-nil (map place c.args.found.now.items))

pub add_loops-returns-in-Empty-4 : goal.add_loops-returns-in-Empty-4
add_loops-returns-in-Empty-4 t c = sym (ap (λ z. map place c.args.found.now.items ++ z) (past_elements (loop_at c.args.table.now c.args.walk.now.states.items c.args.number) (loop_skips c.args.table.now c.args.walk.now.states.items c.args.number) (λ x k p. refl) c.args.pattern.now c.in-Empty.is) ∙ append-nil (map place c.args.found.now.items))

pub add_loops-returns-in-Empty-5 : goal.add_loops-returns-in-Empty-5
add_loops-returns-in-Empty-5 t c = sym (ap (λ z. map place c.args.found.now.items ++ z) (past_elements (loop_at c.args.table.now c.args.walk.now.states.items c.args.number) (loop_skips c.args.table.now c.args.walk.now.states.items c.args.number) (λ x k p. refl) c.args.pattern.now c.in-Empty.is) ∙ append-nil (map place c.args.found.now.items))

pub add_all_loops-loop-pattern-init : goal.add_all_loops-loop-pattern-init
add_all_loops-loop-pattern-init t c = refl

pub add_all_loops-returns-in_err-add_loops : goal.add_all_loops-returns-in_err-add_loops
add_all_loops-returns-in_err-add_loops t c = failed_on c.from_residual.result _ _ c.from_residual.ensures.1

pub add_all_loops-returns : goal.add_all_loops-returns
add_all_loops-returns t c = found_all (loop_at c.args.table.now c.args.walk.now.states.items c.args.number) false c.args.patterns.now c.loop-pattern.pattern-index (map place c.loop-pattern.found.items) _ c.loop-pattern-test.false c.loop-pattern.invariant

pub add_loops-returns-in_err-push-in-Ref : goal.add_loops-returns-in_err-push-in-Ref
add_loops-returns-in_err-push-in-Ref t c = failed_on c.from_residual.result _ _ c.from_residual.ensures.1

pub add_loops-joins-requires-clause-first : goal.add_loops-joins-requires-clause-first
add_loops-joins-requires-clause-first t c = c.requires.within

pub add_loops-joins-requires-clause-second : goal.add_loops-joins-requires-clause-second
add_loops-joins-requires-clause-second t c = c.requires.numbers _ c.in-Some.other (sym c.number.ensures ∙ c.in-Some.is)
