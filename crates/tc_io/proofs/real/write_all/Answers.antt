use Rattle.std.proofs.Common.{[], refl, ◌≡◌, ◌++◌, ap, ◌∙◌, append_assoc, take, drop, take-append-drop}
use Rattle.tc_io.proofs.KnownBytes.{appends_nothing, whole_written, took_nothing, appends_twice, appends_kept, left_after}
use Rattle.tc_io.proofs.real.write_all.Goals as goal
use Rattle.tc_io.proofs.real.write_all.Goals.{in-Ok, in-Err}
use borrow.Author.Count.{falls}

pub returns-in-Ok-eq0-clause-reaches : goal.returns-in-Ok-eq0-clause-reaches
returns-in-Ok-eq0-clause-reaches g c = tt

pub loop-preserved : goal.loop-preserved
loop-preserved g c =
    let so_far = c.loop.invariant in
    elim c.match-write.branch [
      | in-Ok w ↦
          let n = w.in-Ok.count in
          let left : c.match-write.rest.now ≡ drop n c.loop.rest.now = ap (λ r. r.now) w.rest-is ∙ left_after n c.loop.rest.now in (
            so_far.0 ++ take n c.loop.rest.now,
            ap (λ x. (so_far.0 ++ take n c.loop.rest.now) ++ x) left ∙ (append_assoc so_far.0 _ _ ∙ (ap (λ x. so_far.0 ++ x) (take-append-drop n c.loop.rest.now) ∙ so_far.1)),
            appends_twice _ _ _ so_far.0 (take n c.loop.rest.now) so_far.2 w.in-Ok.ensures.bytes,
          )
      | in-Err w ↦
          (so_far.0, ap (λ r. so_far.0 ++ r.now) w.rest-is ∙ so_far.1, appends_kept _ _ _ so_far.0 so_far.2 w.in-Err.ensures.bytes)
    ]

pub loop-init : goal.loop-init
loop-init g c = ([], refl, appends_nothing (g.W.Write.contents c.args.out.now))

pub returns-then-is_empty-clause-reaches : goal.returns-then-is_empty-clause-reaches
returns-then-is_empty-clause-reaches g c = whole_written (g.W.Write.contents c.args.out.now) (g.W.Write.contents c.loop.out) c.loop.invariant.0 c.loop.rest.now _ c.loop.invariant.1 c.loop.invariant.2 c.if-is_empty.ensures

pub returns-in-Ok-eq0-clause-front : goal.returns-in-Ok-eq0-clause-front
returns-in-Ok-eq0-clause-front g c = record {
  front = c.loop.invariant.0;
  rest = c.loop.rest.now;
  parts = c.loop.invariant.1;
  appended = took_nothing (g.W.Write.contents c.args.out.now) (g.W.Write.contents c.loop.out) (g.W.Write.contents c.write.new.self) c.loop.invariant.0 c.loop.rest.now c.write.result c.in-Ok-eq0.field-0 c.loop.invariant.2 c.write.ensures.bytes c.in-Ok-eq0.is c.in-Ok-eq0.field-0-test;
}

pub slice_bounds-rest-count : goal.slice_bounds-rest-count
slice_bounds-rest-count g c = c.in-Ok.ensures.bound

pub returns-in-Err-2-clause-front : goal.returns-in-Err-2-clause-front
returns-in-Err-2-clause-front g c = record {
  front = c.loop.invariant.0;
  rest = c.loop.rest.now;
  parts = c.loop.invariant.1;
  appended = appends_kept (g.W.Write.contents c.args.out.now) (g.W.Write.contents c.loop.out) (g.W.Write.contents c.write.new.self) c.loop.invariant.0 c.loop.invariant.2 c.in-Err-2.ensures.bytes;
}

pub loop-smaller : goal.loop-smaller
loop-smaller g c = falls _ c.loop.counter c.loop-test.true

pub returns-clause-front : goal.returns-clause-front
returns-clause-front g c = record { front = c.loop.invariant.0; rest = c.loop.rest.now; parts = c.loop.invariant.1; appended = c.loop.invariant.2 }
