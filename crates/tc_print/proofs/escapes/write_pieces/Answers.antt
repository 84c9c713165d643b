use Rattle.std.proofs.Common.{◌+◌, get_or, take, length, subst, sym, ap, ◌∙◌, arith}
use Rattle.std.specs.List.{flat_map}
use Rattle.tc_io.specs.Sink.{Appended, WroteFront}
use Rattle.tc_io.proofs.Fronts.{on_err, on_err_map, on_ok_map, appended_twice, next_front, then_rose}
use Rattle.tc_print.specs.Pieces.{escaped}
use Rattle.tc_print.proofs.Runs.{between, none_between, run_written, run_longer, flat_next, front_of_all, all_written}
use Rattle.tc_print.proofs.Failed.{no_ok}
use Rattle.tc_print.proofs.escapes.write_pieces.Goals as goal
use Rattle.tc_print.proofs.escapes.write_pieces.Goals.{in-Some+in_ok-write_run+in_ok-write, in_default}

pub returns-in_err-write_run-clause-fault : goal.returns-in_err-write_run-clause-fault
returns-in_err-write_run-clause-fault g c =
    let f = escaped c.args.within in
    let xs = c.args.bytes.now in
    let w = c.loop-place.written in
    let p = c.loop-place.place in
    let kept = c.loop-place.invariant in
    on_err c.from_residual.result (front_of_all f xs _ _ p (subst (WroteFront _ _) (run_written f xs w p kept.in_order kept.plain)
    (next_front _ _ _ (flat_map f (take w xs)) (between xs w p) kept.so_far c.in_err-write_run.ensures.fault)))

pub returns-in_err-write-clause-fault : goal.returns-in_err-write-clause-fault
returns-in_err-write-clause-fault g c =
    let f = escaped c.args.within in
    let xs = c.args.bytes.now in
    let w = c.loop-place.written in
    let p = c.loop-place.place in
    let kept = c.loop-place.invariant in
    let so_far = subst (Appended _ _) (run_written f xs w p kept.in_order kept.plain)
    (appended_twice _ _ _ (flat_map f (take w xs)) (between xs w p) kept.so_far c.in_ok-write_run.ensures.ok) in
    on_err c.from_residual-in_err-write.result (front_of_all f xs _ _ (p + 1) (subst (WroteFront _ _) (sym (flat_next f xs p c.loop-place-test.true))
    (next_front _ _ _ (flat_map f (take p xs)) (f (get_or xs p 0)) so_far (subst (WroteFront _ _) (sym c.in-Some.ensures.some) c.in_err-write.ensures.fault))))

pub loop-place-preserved : goal.loop-place-preserved
loop-place-preserved g c =
    let f = escaped c.args.within in
    let xs = c.args.bytes.now in
    let w = c.loop-place.written in
    let p = c.loop-place.place in
    let kept = c.loop-place.invariant in
    elim c.match-reference.branch [
      | in-Some+in_ok-write_run+in_ok-write b ↦
          let so_far = subst (Appended _ _) (run_written f xs w p kept.in_order kept.plain)
          (appended_twice _ _ _ (flat_map f (take w xs)) (between xs w p) kept.so_far b.in_ok-write_run.ensures.ok) in
          rw (b.sink-is, b.written-is) (record {
            in_order = omega arith;
            count = omega (arith, kept.count, b.in_ok-write_run.ensures.faults.count, b.in_ok-write.ensures.count);
            plain = ap (flat_map f) (none_between xs (p + 1)) ∙ sym (none_between xs (p + 1));
            so_far = subst (Appended _ _) (sym (flat_next f xs p c.loop-place-test.true))
                (appended_twice _ _ _ (flat_map f (take p xs)) (f (get_or xs p 0)) so_far (subst (Appended _ _) (sym b.in-Some.ensures.some) b.in_ok-write.ensures.ok));
          })
      | in_default b ↦
          rw (b.sink-is, b.written-is) (record {
            in_order = omega (arith, kept.in_order);
            count = kept.count;
            plain = run_longer f xs w p kept.in_order c.loop-place-test.true kept.plain b.in_default.ensures.none;
            so_far = kept.so_far;
          })
    ]

pub returns-clause-ok : goal.returns-clause-ok
returns-clause-ok g c =
    let f = escaped c.args.within in
    let xs = c.args.bytes.now in
    let w = c.loop-place.written in
    let kept = c.loop-place.invariant in
    on_ok_map c.write_run-2.result (λ h. subst (Appended _ _) (all_written f xs w c.loop-place.place kept.in_order (omega arith) kept.plain)
    (appended_twice _ _ _ (flat_map f (take w xs)) (between xs w (length xs)) kept.so_far h)) c.write_run-2.ensures.ok

pub returns-clause-fault : goal.returns-clause-fault
returns-clause-fault g c =
    let f = escaped c.args.within in
    let xs = c.args.bytes.now in
    let w = c.loop-place.written in
    let kept = c.loop-place.invariant in
    on_err_map c.write_run-2.result (λ h. subst (WroteFront _ _) (all_written f xs w c.loop-place.place kept.in_order (omega arith) kept.plain)
    (next_front _ _ _ (flat_map f (take w xs)) (between xs w (length xs)) kept.so_far h)) c.write_run-2.ensures.fault

pub returns-in_err-write_run-clause-faults : goal.returns-in_err-write_run-clause-faults
returns-in_err-write_run-clause-faults g c = record { count = omega (arith, c.loop-place.invariant.count, c.in_err-write_run.ensures.faults.count); rose = on_err c.from_residual.result (then_rose _ _ _ c.loop-place.invariant.count c.in_err-write_run.ensures.faults.rose) }

pub returns-in_err-write_run-clause-ok : goal.returns-in_err-write_run-clause-ok
returns-in_err-write_run-clause-ok g c = no_ok c.from_residual.result _ _ c.from_residual.ensures.1

pub returns-in_err-write-clause-faults : goal.returns-in_err-write-clause-faults
returns-in_err-write-clause-faults g c = record { count = omega (arith, c.loop-place.invariant.count, c.in_ok-write_run.ensures.faults.count, c.in_err-write.ensures.count); rose = on_err c.from_residual-in_err-write.result (then_rose _ _ _ c.loop-place.invariant.count (then_rose _ _ _ c.in_ok-write_run.ensures.faults.count c.in_err-write.ensures.rose)) }

pub returns-in_err-write-clause-ok : goal.returns-in_err-write-clause-ok
returns-in_err-write-clause-ok g c = no_ok c.from_residual-in_err-write.result _ _ c.from_residual-in_err-write.ensures.1
