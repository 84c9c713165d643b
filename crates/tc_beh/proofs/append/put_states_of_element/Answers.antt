use Rattle.std.proofs.Common.{◌≡◌, ◌<◌, ◌≤◌, ◌⊎◌, ◌+◌, ◌∙◌, sym, get_or, length, subst, ap, arith, refl, true, false, slice_get, Some}
use Rattle.std.proofs.lemmas.Option.{slice_get_read}
use Rattle.tc_model.specs.States as s
use Rattle.tc_auto.specs.Arrows.{AreWithin}
use Rattle.tc_auto.specs.Stands.{states}
use Rattle.tc_mat.specs.Matrix.{words_a_row}
use Rattle.tc_beh.specs.Bundles.{AreBundled, AreLow, AreStepsOf}
use Rattle.tc_beh.specs.declared.bundles.Bundles.{Bundles}
use Rattle.tc_beh.specs.declared.rooms.Room.{Room}
use Rattle.tc_beh.specs.RoomsOf.{IsRoomBeside}
use Rattle.tc_beh.proofs.Bundling.{steps_worded}
use Rattle.tc_beh.proofs.Flagging.{PutSoFar, is_put, not_put, all_put}
use Rattle.tc_beh.proofs.append.put_states_of_element.Goals.{then-is_set, else-is_set}
use Rattle.tc_beh.proofs.append.put_states_of_element.Goals as goal

pub put_edges-requires-clause-within : goal.put_edges-requires-clause-within
put_edges-requires-clause-within c =
    subst (λ n. AreWithin n c.arrows.result.now) (sym (c.loop-before.invariant.beside.flags ∙ c.requires.flags)) c.arrows.ensures.within

pub put_edges-requires-clause-low : goal.put_edges-requires-clause-low
put_edges-requires-clause-low c =
    let a = c.args.auto.now in
    let so_far = c.loop-before.invariant in
    let n = c.loop-before.before in
    let rows = c.loop-before.bundles.patterns.items in
    let row = c.index.result.now in
    let here = c.patterns-before-end.ensures.here in
    let got : slice_get rows n ≡ Some row = slice_get_read rows (length rows) n row refl (omega (arith, c.loop-before-test.true, here, so_far.steps.count)) c.index.ensures in
    subst (λ m. AreLow m c.as_slice.result.now) (sym (so_far.beside.flags ∙ c.requires.flags)) (subst (AreLow (states a)) (sym c.as_slice.ensures.value) (so_far.steps.patterns n row got).low)

pub put_edges-requires-clause-words : goal.put_edges-requires-clause-words
put_edges-requires-clause-words c =
    let so_far = c.loop-before.invariant in
    let e = ap words_a_row (so_far.beside.flags ∙ c.requires.flags) in
    omega (arith, e, so_far.steps.words)

pub loop-before-preserved : goal.loop-before-preserved
loop-before-preserved c =
    let a = c.args.auto.now in
    let hedge = c.args.hedge.now in
    let patterns = c.args.patterns.now in
    let old = c.args.out.now in
    let n = c.loop-before.before in
    let mid = c.loop-before.out in
    let so_far = c.loop-before.invariant in
    let steps = so_far.steps in
    elim c.if-is_set.branch [
      | then-is_set w ↦
          let rows = c.loop-before.bundles.patterns.items in
          let row = w.index.result.now in
          let here = c.patterns-before-end.ensures.here in
          let got : slice_get rows n ≡ Some row = slice_get_read rows (length rows) n row refl (omega (arith, c.loop-before-test.true, here, steps.count)) w.index.ensures in
          let bundled = subst (AreBundled a (s.ref_leaf (n + 1))) (sym w.as_slice.ensures.value) (steps.patterns n row got) in
          let new = w.put_edges.new.out in
          let put = w.put_edges.ensures in
          record {
            steps = subst (AreStepsOf a) (sym w.bundles-is) (steps_worded a c.loop-before.bundles steps w.put_edges.new.words put.count put.current);
            beside = subst (λ (r : Room). IsRoomBeside old r) (sym w.out-is)
                (record { flags = put.beside.flags ∙ so_far.beside.flags; entries = put.beside.entries ∙ so_far.beside.entries; count = put.beside.count ∙ so_far.beside.count });
            others = λ k h. ap (λ (r : Room). get_or r.numbers.items k 0) w.out-is ∙ (put.others k (subst (λ f. (k < 2) ⊎ (2 + f ≤ k)) (sym so_far.beside.flags) h) ∙ so_far.others k h);
            put = subst (λ (r : Room). PutSoFar a hedge (n + 1) patterns r.numbers.items) (sym w.out-is)
                (is_put a hedge patterns n mid.numbers.items new.numbers.items (w.if-is_set.ensures.0 refl)
                (put.flags a (s.ref_leaf (n + 1)) (so_far.beside.flags ∙ c.requires.flags) (record { within = w.arrows.ensures.within; exact = w.arrows.ensures.exact; bundled = bundled })) so_far.put);
          }
      | else-is_set w ↦ record {
        steps = subst (AreStepsOf a) (sym w.bundles-is) steps;
        beside = subst (λ (r : Room). IsRoomBeside old r) (sym w.out-is) so_far.beside;
        others = λ k h. ap (λ (r : Room). get_or r.numbers.items k 0) w.out-is ∙ so_far.others k h;
        put = subst (λ (r : Room). PutSoFar a hedge (n + 1) patterns r.numbers.items) (sym w.out-is)
            (not_put a hedge patterns n mid.numbers.items (λ h. let f : false ≡ true = w.if-is_set.ensures.1 h in absurd (cc)) so_far.put);
      }
    ]

pub returns-clause-flags : goal.returns-clause-flags
returns-clause-flags c =
    let past = c.loop-before-test.false in
    let end = c.loop-before.auto.before-end in
    let here = c.patterns-before-end.ensures.here in
    let count = c.requires.patterns in
    all_put c.args.auto.now c.args.hedge.now c.args.patterns.now c.loop-before.before c.loop-before.out.numbers.items (omega (arith, past, end, here, count)) c.loop-before.invariant.put
