use Rattle.std.proofs.Common.{arith, ◌≡◌, ◌≤◌, ◌<◌, ◌-◌, ◌++◌, min, not, length, take, ap, sym, refl, subst, ◌∙◌, Some, append-nil, inl, inr, is_ok}
use Rattle.std.specs.Prelude.{IsOk}
use Rattle.std.proofs.Math.Nat.{le_refl}
use Rattle.std.proofs.lemmas.Bool.{false≢true, true≢false}
use Rattle.std.proofs.lemmas.List.{take_all}
use Rattle.tc_io.proofs.Fronts.{cut_front, no_front}
use Rattle.tc_io.proofs.Rooms.{length_cut, room_kept, items_done, fits_held, cut_at_room, no_room, has_room, raised_rose, raised_more, sink_is}
use Rattle.tc_io.proofs.memory.MemSinkSink.write.Goals as goal
use Rattle.tc_io.proofs.memory.MemSinkSink.write.Goals.{then-fits-piece-via-then-fits-piece, then-fits-piece-via-else-fits-piece+then-is_err}

pub invariant_of-self : goal.invariant_of-self
invariant_of-self c = c.self.invariant

pub returns-then-next_fails-clause-count : goal.returns-then-next_fails-clause-count
returns-then-next_fails-clause-count c = rw (← c.self.view_is) (raised_more c.self.inside.faults c.saturating_add-self-inside.result (omega arith) c.saturating_add-self-inside.ensures)

pub returns-then-next_fails-clause-fault : goal.returns-then-next_fails-clause-fault
returns-then-next_fails-clause-fault c = rw (← c.self.view_is) (no_front (Some c.self.inside.bytes.items) c.args.piece.now)

pub returns-then-next_fails-clause-rose : goal.returns-then-next_fails-clause-rose
returns-then-next_fails-clause-rose c = rw (← c.self.view_is) (raised_rose c.self.inside.faults c.saturating_add-self-inside.result c.saturating_add-self-inside.ensures)

pub returns-then-next_fails-clause-gives : goal.returns-then-next_fails-clause-gives
returns-then-next_fails-clause-gives c = rw (← c.self.view_is) (inl (
  c.if-next_fails.ensures.fails.0 refl,
  sink_is _ _ _ _ _ _ _ _ _ (sym (append-nil c.self.inside.bytes.items)) c.next_fails.ensures.so_far c.next_fails.ensures.failing c.saturating_add-self-inside.ensures,
))

pub overflow_sub-self-inside : goal.overflow_sub-self-inside
overflow_sub-self-inside c = subst (λ n. n ≤ c.self.inside.room) (sym c.len.ensures) c.self.invariant.0

pub slice_bounds-extend_from_slice-end : goal.slice_bounds-extend_from_slice-end
slice_bounds-extend_from_slice-end c = length_cut _ _ c.args.piece.now c.min-fits.ensures

pub invariant_of-self-else-is_err : goal.invariant_of-self-else-is_err
invariant_of-self-else-is_err c = room_kept (is_ok c.extend_from_slice-appended.result) _ _ _ _ c.self.inside.room c.min-fits.result c.args.piece.now c.self.invariant
    (subst (λ n. c.min-fits.result ≡ min (length c.args.piece.now) (c.self.inside.room - n)) c.len.ensures c.min-fits.ensures) c.extend_from_slice-appended.ensures.len c.extend_from_slice-appended.ensures.capacity

pub invariant_of-self-then-fits-piece : goal.invariant_of-self-then-fits-piece
invariant_of-self-then-fits-piece c = room_kept (is_ok c.extend_from_slice-appended.result) _ _ _ _ c.self.inside.room c.min-fits.result c.args.piece.now c.self.invariant
    (subst (λ n. c.min-fits.result ≡ min (length c.args.piece.now) (c.self.inside.room - n)) c.len.ensures c.min-fits.ensures) c.extend_from_slice-appended.ensures.len c.extend_from_slice-appended.ensures.capacity

pub returns-then-fits-piece-clause-count : goal.returns-then-fits-piece-clause-count
returns-then-fits-piece-clause-count c = rw (← c.self.view_is) (raised_more c.self.inside.faults _ (omega arith) c.saturating_add-self-inside-then-fits-piece.ensures)

pub returns-then-fits-piece-clause-rose : goal.returns-then-fits-piece-clause-rose
returns-then-fits-piece-clause-rose c = rw (← c.self.view_is) (raised_rose c.self.inside.faults _ c.saturating_add-self-inside-then-fits-piece.ensures)

pub returns-then-fits-piece-clause-fault : goal.returns-then-fits-piece-clause-fault
returns-then-fits-piece-clause-fault c =
    let done : IsOk c.extend_from_slice-appended.result = fits_held _ _ _ _ c.args.piece.now c.self.invariant c.len.ensures c.min-fits.ensures c.extend_from_slice-appended.ensures.succeeds in
    let appended = items_done c.self.inside.bytes.items (take c.min-fits.result c.args.piece.now) c.extend_from_slice-appended.ensures.items done in
    rw (← c.self.view_is) (cut_front _ _ c.args.piece.now c.min-fits.result (ap Some appended))

pub returns-then-fits-piece-clause-gives : goal.returns-then-fits-piece-clause-gives
returns-then-fits-piece-clause-gives c =
    let done : IsOk c.extend_from_slice-appended.result = fits_held _ _ _ _ c.args.piece.now c.self.invariant c.len.ensures c.min-fits.ensures c.extend_from_slice-appended.ensures.succeeds in
    let short : c.min-fits.result < length c.args.piece.now = elim c.then-fits-piece.branch [
      | then-fits-piece-via-then-fits-piece w ↦ w.if-fits-piece.true
      | then-fits-piece-via-else-fits-piece+then-is_err w ↦ absurd (true≢false (sym done ∙ (w.is_err.ensures.negation ∙ ap not w.if-is_err.true)))
    ] in
    let n = cut_at_room _ _ _ c.args.piece.now c.self.inside.bytes.ok.0 c.len.ensures c.min-fits.ensures short in
    let appended = items_done c.self.inside.bytes.items (take c.min-fits.result c.args.piece.now) c.extend_from_slice-appended.ensures.items done in
    rw (← c.self.view_is) (inr (
      λ fails. false≢true (sym c.if-next_fails.false ∙ c.next_fails.ensures.fails.1 fails),
      no_room _ _ _ c.args.piece.now c.self.inside.bytes.ok.0 c.len.ensures c.min-fits.ensures short,
      sink_is _ _ _ _ _ _ _ _ _ (appended ∙ ap (λ k. c.self.inside.bytes.items ++ take k c.args.piece.now) n) c.next_fails.ensures.so_far c.next_fails.ensures.failing c.saturating_add-self-inside-then-fits-piece.ensures,
    ))

pub returns-clause-count : goal.returns-clause-count
returns-clause-count c = rw (← c.self.view_is) (le_refl _)

pub returns-clause-ok : goal.returns-clause-ok
returns-clause-ok c =
    let all = take_all c.min-fits.result c.args.piece.now c.if-fits-piece.false in
    let done : IsOk c.extend_from_slice-appended.result = fits_held _ _ _ _ c.args.piece.now c.self.invariant c.len.ensures c.min-fits.ensures c.extend_from_slice-appended.ensures.succeeds in
    let appended = items_done c.self.inside.bytes.items (take c.min-fits.result c.args.piece.now) c.extend_from_slice-appended.ensures.items done in
    rw (← c.self.view_is) (ap Some (appended ∙ ap (λ x. c.self.inside.bytes.items ++ x) all))

pub returns-clause-gives : goal.returns-clause-gives
returns-clause-gives c =
    let all = take_all c.min-fits.result c.args.piece.now c.if-fits-piece.false in
    let done : IsOk c.extend_from_slice-appended.result = fits_held _ _ _ _ c.args.piece.now c.self.invariant c.len.ensures c.min-fits.ensures c.extend_from_slice-appended.ensures.succeeds in
    let appended = items_done c.self.inside.bytes.items (take c.min-fits.result c.args.piece.now) c.extend_from_slice-appended.ensures.items done in
    rw (← c.self.view_is) (
      λ fails. false≢true (sym c.if-next_fails.false ∙ c.next_fails.ensures.fails.1 fails),
      has_room _ _ _ c.args.piece.now c.self.inside.bytes.ok.0 c.self.invariant.0 c.len.ensures c.min-fits.ensures c.if-fits-piece.false,
      sink_is _ _ _ _ _ _ _ _ _ (appended ∙ ap (λ x. c.self.inside.bytes.items ++ x) all) c.next_fails.ensures.so_far c.next_fails.ensures.failing refl,
    )
