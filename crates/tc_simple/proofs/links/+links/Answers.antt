use Rattle.std.proofs.Common.{◌∙◌, ◌++◌, [], sym, ap, true, false, refl}
use Rattle.std.specs.List.{cons_option}
use Rattle.std.proofs.lemmas.List.{append-nil}
use Rattle.tc_graph.proofs.Tops.{on_ok}
use Rattle.tc_simple.specs.Nodes.{target}
use Rattle.tc_simple.proofs.Answered.{found_next, failed_on, found_all}
use Rattle.tc_simple.proofs.Below.{in_none, in_part, in_parts, target_seen, target_skips, targets_within}
use Rattle.tc_simple.proofs.links.+links.Goals as goal

pub add_all_links-loop-pattern-preserved : goal.add_all_links-loop-pattern-preserved
add_all_links-loop-pattern-preserved t c =
    found_next (target c.args.table.now) c.args.within c.args.patterns.now c.loop-pattern.pattern-index c.pattern-item.result c.loop-pattern.found.items c.add_links.new.found.items c.loop-pattern-test.true c.pattern-item.is
    c.in_ok-add_links.ensures
    ∙ c.loop-pattern.invariant

pub add_links-returns-in-Empty : goal.add_links-returns-in-Empty
add_links-returns-in-Empty t c = sym (ap (λ z. c.args.found.now.items ++ z) (in_none (target c.args.table.now) (target_skips c.args.table.now) c.args.within c.args.pattern.now c.in-Empty.is) ∙ append-nil (c.args.found.now.items))

pub add_links-returns-in-Mixed : goal.add_links-returns-in-Mixed
add_links-returns-in-Mixed t c =
    on_ok c.add_links-in-Mixed.result (λ e. e ∙ ap (λ z. c.args.found.now.items ++ z) (sym (in_part (target c.args.table.now) (target_skips c.args.table.now) c.args.within c.args.pattern.now c.in-Mixed.p c.in-Mixed.is))) c.add_links-in-Mixed.ensures

pub add_links-returns-in-Group : goal.add_links-returns-in-Group
add_links-returns-in-Group t c =
    on_ok c.add_all_links.result (λ e. e ∙ ap (λ z. c.args.found.now.items ++ z) (sym (in_parts (target c.args.table.now) (target_skips c.args.table.now) c.args.within c.args.pattern.now c.in-Group.ps c.in-Group.is))) c.add_all_links.ensures

pub add_links-returns-in_ok-push-in-Ref : goal.add_links-returns-in_ok-push-in-Ref
add_links-returns-in_ok-push-in-Ref t c =
    c.in_ok-push-in-Ref.ensures.items
    ∙ ap (λ z. c.args.found.now.items ++ z) (sym (target_seen c.args.pattern.now c.in-Ref.name c.in-Ref.field-1 c.in-Ref.is c.args.table.now c.args.within ∙ ap (λ o. cons_option o []) (sym c.number.ensures ∙ c.in-Some.is)))

pub add_links-returns-in_default : goal.add_links-returns-in_default
add_links-returns-in_default t c =
    sym (ap (λ z. c.args.found.now.items ++ z) (target_seen c.args.pattern.now c.in-Ref.name c.in-Ref.field-1 c.in-Ref.is c.args.table.now c.args.within ∙ ap (λ o. cons_option o []) (sym c.number.ensures ∙ c.in_default.is)) ∙ append-nil c.args.found.now.items)

pub add_links-returns-then-within : goal.add_links-returns-then-within
add_links-returns-then-within t c =
    on_ok c.add_links.result (λ e. e ∙ ap (λ z. c.args.found.now.items ++ z) (sym (targets_within c.args.table.now c.args.within true c.args.pattern.now c.in-Element.field-0 c.in-Element.field-1 c.in-Element.p c.in-Element.is c.if-within.true))) c.add_links.ensures

pub add_links-returns-else-within : goal.add_links-returns-else-within
add_links-returns-else-within t c =
    sym (ap (λ z. c.args.found.now.items ++ z) (targets_within c.args.table.now c.args.within false c.args.pattern.now c.in-Element.field-0 c.in-Element.field-1 c.in-Element.p c.in-Element.is c.if-within.false) ∙ append-nil c.args.found.now.items)

pub add_links-returns-in-Empty-2 : goal.add_links-returns-in-Empty-2
add_links-returns-in-Empty-2 t c = sym (ap (λ z. c.args.found.now.items ++ z) (in_none (target c.args.table.now) (target_skips c.args.table.now) c.args.within c.args.pattern.now c.in-Empty.is) ∙ append-nil (c.args.found.now.items))

pub add_links-returns-in-Empty-3 : goal.add_links-returns-in-Empty-3
add_links-returns-in-Empty-3 t c = sym (ap (λ z. c.args.found.now.items ++ z) (in_none (target c.args.table.now) (target_skips c.args.table.now) c.args.within c.args.pattern.now c.in-Empty.is) ∙ append-nil (c.args.found.now.items))

pub add_links-returns-in-Empty-4 : goal.add_links-returns-in-Empty-4
add_links-returns-in-Empty-4 t c = sym (ap (λ z. c.args.found.now.items ++ z) (in_none (target c.args.table.now) (target_skips c.args.table.now) c.args.within c.args.pattern.now c.in-Empty.is) ∙ append-nil (c.args.found.now.items))

pub add_all_links-loop-pattern-init : goal.add_all_links-loop-pattern-init
add_all_links-loop-pattern-init t c = refl

pub add_all_links-returns-in_err-add_links : goal.add_all_links-returns-in_err-add_links
add_all_links-returns-in_err-add_links t c = failed_on c.from_residual.result _ _ c.from_residual.ensures.1

pub add_all_links-returns : goal.add_all_links-returns
add_all_links-returns t c = found_all (target c.args.table.now) c.args.within c.args.patterns.now c.loop-pattern.pattern-index (c.loop-pattern.found.items) _ c.loop-pattern-test.false c.loop-pattern.invariant

pub add_links-returns-in_err-push-in-Ref : goal.add_links-returns-in_err-push-in-Ref
add_links-returns-in_err-push-in-Ref t c = failed_on c.from_residual.result _ _ c.from_residual.ensures.1
