use Rattle.std.proofs.Common.{rules, ◌≡◌, ◌++◌, ◌+◌, ◌<◌, length, ℕ, List, drop, subst, sym, ap, ◌∙◌, append_assoc, codes, arith}
use Rattle.tc_io.specs.Sink.{Appended, WroteFront}
use Rattle.tc_io.proofs.Fronts.{on_err, on_err_map, on_ok_map, appended_twice, first_front, next_front, then_rose}
use Rattle.tc_model.specs.Printed.{printed_in, default_within}
use Rattle.tc_model.specs.Views.{name, before, trees}
use Rattle.tc_model.specs.Trees.{none}
use Rattle.tc_print.specs.Pieces.{begun_tag, end_tag}
use Rattle.tc_print.proofs.Trees.{content, printed_left, element_alone, empty_alone, full_alone}
use Rattle.tc_print.proofs.Failed.{no_ok}
use Rattle.tc_print.proofs.+print.Goals as goal

pub print_one-returns-in_err-within-in-Elem-clause-fault : goal.print_one-returns-in_err-within-in-Elem-clause-fault
print_one-returns-in_err-within-in-Elem-clause-fault g t c =
    let d = c.args.default.now in
    let n = name c.in-Elem.name in
    on_err c.from_residual.result (subst (WroteFront _ _) (element_alone d c.args.node.now c.in-Elem.name c.in-Elem.kids c.in-Elem.is)
    (first_front _ _ (begun_tag d n) (content d n (trees c.in-Elem.kids.now)) c.in_err-within-in-Elem.ensures.fault))

pub print_one-returns-then-is_empty-clause-ok : goal.print_one-returns-then-is_empty-clause-ok
print_one-returns-then-is_empty-clause-ok g t c =
    let d = c.args.default.now in
    let n = name c.in-Elem.name in
    let empty : length c.in-Elem.kids.now ≡ 0 = search rules in
    on_ok_map c.write.result (λ h. subst (Appended _ _) (empty_alone d c.args.node.now c.in-Elem.name c.in-Elem.kids c.in-Elem.is empty)
    (appended_twice _ _ _ (begun_tag d n) (codes "/>") c.in_ok-within-in-Elem.ensures.ok h)) c.write.ensures.ok

pub print_one-returns-then-is_empty-clause-fault : goal.print_one-returns-then-is_empty-clause-fault
print_one-returns-then-is_empty-clause-fault g t c =
    let d = c.args.default.now in
    let n = name c.in-Elem.name in
    let empty : length c.in-Elem.kids.now ≡ 0 = search rules in
    on_err_map c.write.result (λ h. subst (WroteFront _ _) (empty_alone d c.args.node.now c.in-Elem.name c.in-Elem.kids c.in-Elem.is empty)
    (next_front _ _ _ (begun_tag d n) (codes "/>") c.in_ok-within-in-Elem.ensures.ok h)) c.write.ensures.fault

pub print_one-returns-in_err-write-in-Elem-clause-fault : goal.print_one-returns-in_err-write-in-Elem-clause-fault
print_one-returns-in_err-write-in-Elem-clause-fault g t c =
    let d = c.args.default.now in
    let n = name c.in-Elem.name in
    let inner = printed_in (default_within d n) (trees c.in-Elem.kids.now) in
    let some : 0 < length c.in-Elem.kids.now = search rules in
    on_err c.from_residual-in_err-write-in-Elem.result (subst (WroteFront _ _) (full_alone d c.args.node.now c.in-Elem.name c.in-Elem.kids c.in-Elem.is some)
    (next_front _ _ _ (begun_tag d n) (codes ">" ++ inner ++ end_tag n) c.in_ok-within-in-Elem.ensures.ok
    (first_front _ _ (codes ">") (inner ++ end_tag n) c.in_err-write-in-Elem.ensures.fault)))

pub print_one-returns-in_err-print_within-in-Elem-clause-fault : goal.print_one-returns-in_err-print_within-in-Elem-clause-fault
print_one-returns-in_err-print_within-in-Elem-clause-fault g t c =
    let d = c.args.default.now in
    let n = name c.in-Elem.name in
    let inner = printed_in (default_within d n) (trees c.in-Elem.kids.now) in
    let some : 0 < length c.in-Elem.kids.now = search rules in
    let part = subst (λ (x : List ℕ). WroteFront (g.K.Sink.written c.write-in-Elem.new.self) (g.K.Sink.written c.print_within.new.sink) (printed_in x (trees c.in-Elem.kids.now)))
    c.in_ok-within-in-Elem.ensures.within c.in_err-print_within-in-Elem.ensures.fault in
    on_err c.from_residual-in_err-print_within-in-Elem.result (subst (WroteFront _ _) (full_alone d c.args.node.now c.in-Elem.name c.in-Elem.kids c.in-Elem.is some)
    (next_front _ _ _ (begun_tag d n) (codes ">" ++ inner ++ end_tag n) c.in_ok-within-in-Elem.ensures.ok
    (next_front _ _ _ (codes ">") (inner ++ end_tag n) c.in_ok-write-in-Elem.ensures.ok (first_front _ _ inner (end_tag n) part))))

pub print_one-returns-in_ok-print_within-in-Elem-clause-ok : goal.print_one-returns-in_ok-print_within-in-Elem-clause-ok
print_one-returns-in_ok-print_within-in-Elem-clause-ok g t c =
    let d = c.args.default.now in
    let n = name c.in-Elem.name in
    let inner = printed_in (default_within d n) (trees c.in-Elem.kids.now) in
    let some : 0 < length c.in-Elem.kids.now = search rules in
    let within = subst (λ (x : List ℕ). Appended (g.K.Sink.written c.write-in-Elem.new.self) (g.K.Sink.written c.print_within.new.sink) (printed_in x (trees c.in-Elem.kids.now)))
    c.in_ok-within-in-Elem.ensures.within c.in_ok-print_within-in-Elem.ensures.ok in
    on_ok_map c.write_end_tag.result (λ h. subst (Appended _ _) (full_alone d c.args.node.now c.in-Elem.name c.in-Elem.kids c.in-Elem.is some)
    (appended_twice _ _ _ (begun_tag d n) (codes ">" ++ inner ++ end_tag n) c.in_ok-within-in-Elem.ensures.ok
    (appended_twice _ _ _ (codes ">") (inner ++ end_tag n) c.in_ok-write-in-Elem.ensures.ok (appended_twice _ _ _ inner (end_tag n) within h)))) c.write_end_tag.ensures.ok

pub print_one-returns-in_ok-print_within-in-Elem-clause-fault : goal.print_one-returns-in_ok-print_within-in-Elem-clause-fault
print_one-returns-in_ok-print_within-in-Elem-clause-fault g t c =
    let d = c.args.default.now in
    let n = name c.in-Elem.name in
    let inner = printed_in (default_within d n) (trees c.in-Elem.kids.now) in
    let some : 0 < length c.in-Elem.kids.now = search rules in
    let within = subst (λ (x : List ℕ). Appended (g.K.Sink.written c.write-in-Elem.new.self) (g.K.Sink.written c.print_within.new.sink) (printed_in x (trees c.in-Elem.kids.now)))
    c.in_ok-within-in-Elem.ensures.within c.in_ok-print_within-in-Elem.ensures.ok in
    on_err_map c.write_end_tag.result (λ h. subst (WroteFront _ _) (full_alone d c.args.node.now c.in-Elem.name c.in-Elem.kids c.in-Elem.is some)
    (next_front _ _ _ (begun_tag d n) (codes ">" ++ inner ++ end_tag n) c.in_ok-within-in-Elem.ensures.ok
    (next_front _ _ _ (codes ">") (inner ++ end_tag n) c.in_ok-write-in-Elem.ensures.ok (next_front _ _ _ inner (end_tag n) within h)))) c.write_end_tag.ensures.fault

pub print_within-returns-in_err-print_one-clause-fault : goal.print_within-returns-in_err-print_one-clause-fault
print_within-returns-in_err-print_one-clause-fault g t c =
    let d = c.args.default.now in
    let so_far = c.loop-node.invariant.so_far in
    let one = printed_in d (before c.node-item.result none) in
    let rest = printed_in d (trees (drop (c.loop-node.node-index + 1) c.args.nodes.now)) in
    let whole : so_far.0 ++ one ++ rest ≡ printed_in d (trees c.args.nodes.now) =
    append_assoc so_far.0 one rest ∙ (ap (λ x. so_far.0 ++ x) (sym (printed_left d c.args.nodes.now c.loop-node.node-index c.node-item.result c.loop-node-test.true c.node-item.is)) ∙ so_far.1) in
    on_err c.from_residual.result (subst (WroteFront _ _) whole
    (first_front _ _ (so_far.0 ++ one) rest (next_front _ _ _ so_far.0 one so_far.2 c.in_err-print_one.ensures.fault)))

pub print_within-loop-node-preserved : goal.print_within-loop-node-preserved
print_within-loop-node-preserved g t c =
    let d = c.args.default.now in
    let so_far = c.loop-node.invariant.so_far in
    let one = printed_in d (before c.node-item.result none) in
    let rest = printed_in d (trees (drop (c.loop-node.node-index + 1) c.args.nodes.now)) in
    let whole : so_far.0 ++ one ++ rest ≡ printed_in d (trees c.args.nodes.now) =
    append_assoc so_far.0 one rest ∙ (ap (λ x. so_far.0 ++ x) (sym (printed_left d c.args.nodes.now c.loop-node.node-index c.node-item.result c.loop-node-test.true c.node-item.is)) ∙ so_far.1) in
    record {
      count = omega (arith, c.loop-node.invariant.count, c.in_ok-print_one.ensures.faults.count);
      so_far = (so_far.0 ++ one, whole, appended_twice _ _ _ so_far.0 one so_far.2 c.in_ok-print_one.ensures.ok);
    }

pub print_one-returns-in_err-within-in-Elem-clause-faults : goal.print_one-returns-in_err-within-in-Elem-clause-faults
print_one-returns-in_err-within-in-Elem-clause-faults g t c = record { count = c.in_err-within-in-Elem.ensures.faults.count; rose = on_err c.from_residual.result c.in_err-within-in-Elem.ensures.faults.rose }

pub print_one-returns-in_err-within-in-Elem-clause-ok : goal.print_one-returns-in_err-within-in-Elem-clause-ok
print_one-returns-in_err-within-in-Elem-clause-ok g t c = no_ok c.from_residual.result _ _ c.from_residual.ensures.1

pub print_one-returns-then-is_empty-clause-faults : goal.print_one-returns-then-is_empty-clause-faults
print_one-returns-then-is_empty-clause-faults g t c = record { count = omega (arith, c.in_ok-within-in-Elem.ensures.faults.count, c.write.ensures.count); rose = on_err_map c.write.result (λ h. then_rose _ _ _ c.in_ok-within-in-Elem.ensures.faults.count h) c.write.ensures.rose }

pub print_one-returns-in_err-write-in-Elem-clause-faults : goal.print_one-returns-in_err-write-in-Elem-clause-faults
print_one-returns-in_err-write-in-Elem-clause-faults g t c = record { count = omega (arith, c.in_ok-within-in-Elem.ensures.faults.count, c.in_err-write-in-Elem.ensures.count); rose = on_err c.from_residual-in_err-write-in-Elem.result (then_rose _ _ _ c.in_ok-within-in-Elem.ensures.faults.count c.in_err-write-in-Elem.ensures.rose) }

pub print_one-returns-in_err-write-in-Elem-clause-ok : goal.print_one-returns-in_err-write-in-Elem-clause-ok
print_one-returns-in_err-write-in-Elem-clause-ok g t c = no_ok c.from_residual-in_err-write-in-Elem.result _ _ c.from_residual-in_err-write-in-Elem.ensures.1

pub print_one-returns-in_err-print_within-in-Elem-clause-faults : goal.print_one-returns-in_err-print_within-in-Elem-clause-faults
print_one-returns-in_err-print_within-in-Elem-clause-faults g t c = record { count = omega (arith, c.in_ok-within-in-Elem.ensures.faults.count, c.in_ok-write-in-Elem.ensures.count, c.in_err-print_within-in-Elem.ensures.faults.count); rose = on_err c.from_residual-in_err-print_within-in-Elem.result (then_rose _ _ _ c.in_ok-within-in-Elem.ensures.faults.count (then_rose _ _ _ c.in_ok-write-in-Elem.ensures.count c.in_err-print_within-in-Elem.ensures.faults.rose)) }

pub print_one-returns-in_err-print_within-in-Elem-clause-ok : goal.print_one-returns-in_err-print_within-in-Elem-clause-ok
print_one-returns-in_err-print_within-in-Elem-clause-ok g t c = no_ok c.from_residual-in_err-print_within-in-Elem.result _ _ c.from_residual-in_err-print_within-in-Elem.ensures.1

pub print_one-returns-in-Text-clause-faults : goal.print_one-returns-in-Text-clause-faults
print_one-returns-in-Text-clause-faults g t c = c.write_escaped.ensures.faults

pub print_one-returns-in_ok-print_within-in-Elem-clause-faults : goal.print_one-returns-in_ok-print_within-in-Elem-clause-faults
print_one-returns-in_ok-print_within-in-Elem-clause-faults g t c = record { count = omega (arith, c.in_ok-within-in-Elem.ensures.faults.count, c.in_ok-write-in-Elem.ensures.count, c.in_ok-print_within-in-Elem.ensures.faults.count, c.write_end_tag.ensures.faults.count); rose = on_err_map c.write_end_tag.result (λ h. then_rose _ _ _ c.in_ok-within-in-Elem.ensures.faults.count (then_rose _ _ _ c.in_ok-write-in-Elem.ensures.count (then_rose _ _ _ c.in_ok-print_within-in-Elem.ensures.faults.count h))) c.write_end_tag.ensures.faults.rose }

pub print_within-returns-in_err-print_one-clause-faults : goal.print_within-returns-in_err-print_one-clause-faults
print_within-returns-in_err-print_one-clause-faults g t c = record { count = omega (arith, c.loop-node.invariant.count, c.in_err-print_one.ensures.faults.count); rose = on_err c.from_residual.result (then_rose _ _ _ c.loop-node.invariant.count c.in_err-print_one.ensures.faults.rose) }

pub print_within-returns-in_err-print_one-clause-ok : goal.print_within-returns-in_err-print_one-clause-ok
print_within-returns-in_err-print_one-clause-ok g t c = no_ok c.from_residual.result _ _ c.from_residual.ensures.1
