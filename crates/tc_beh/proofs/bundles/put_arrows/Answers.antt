use Rattle.std.proofs.Common.{◌≡◌, ◌<◌, inl, inr, ◌+◌, ◌∙◌, sym, get_or, subst, ap, arith, length, refl, true, false}
use Rattle.std.proofs.lemmas.List.{get_or_default}
use Rattle.tc_auto.specs.declared.arrows.Arrow.{Arrow}
use Rattle.tc_beh.specs.Bundles.{PutsBy, no_arrow, arrow_at}
use Rattle.tc_beh.specs.declared.rooms.Room.{Room}
use Rattle.tc_beh.specs.RoomsOf.{IsRoomBeside}
use Rattle.tc_beh.proofs.Bundling.{AlongFirst, is_met, not_met}
use Rattle.tc_beh.proofs.bundles.put_arrows.Goals.{then-is_set, else-is_set}
use Rattle.tc_beh.proofs.bundles.put_arrows.Goals as goal

pub loop-arrow-preserved : goal.loop-arrow-preserved
loop-arrow-preserved c =
    let items = c.args.arrows.now in
    let hedge = c.args.hedge.now in
    let i = c.loop-arrow.arrow-index in
    let old = c.args.out.now in
    let mid = c.loop-arrow.out in
    let so_far = c.loop-arrow.invariant in
    let low : i < length items = c.loop-arrow-test.true in
    elim c.if-is_set.branch [
      | then-is_set w ↦
          let new = w.set_flag.new.self in
          let within : (arrow_at items i).to < old.flags = (so_far.within i no_arrow low).1 in
          let same = w.set_flag.ensures.beside in
          let beside : IsRoomBeside old new = record { flags = same.flags ∙ so_far.beside.flags; entries = same.entries ∙ so_far.beside.entries; count = same.count ∙ so_far.beside.count } in
          record {
            beside = subst (λ (r : Room). IsRoomBeside old r) (sym w.out-is) beside;
            others = λ k h. ap (λ (r : Room). get_or r.numbers.items k 0) w.out-is
                ∙ (w.set_flag.ensures.others k (λ e. elim h [ inl a ↦ absurd (omega (arith, a, e)) | inr a ↦ absurd (omega (arith, a, e, within)) ]) ∙ so_far.others k h);
            within = so_far.within;
            put = subst (λ (r : Room). PutsBy (AlongFirst items hedge (i + 1)) old.numbers.items r.numbers.items) (sym w.out-is)
                (is_met (λ k. (arrow_at items k).to) (λ k. get_or hedge (arrow_at items k).from 0 ≡ 1) i old.numbers.items mid.numbers.items new.numbers.items (w.if-is_set.ensures.0 refl) w.set_flag.ensures.flag w.set_flag.ensures.others so_far.put);
          }
      | else-is_set w ↦ record {
        beside = subst (λ (r : Room). IsRoomBeside old r) (sym w.out-is) so_far.beside;
        others = λ k h. ap (λ (r : Room). get_or r.numbers.items k 0) w.out-is ∙ so_far.others k h;
        within = so_far.within;
        put = subst (λ (r : Room). PutsBy (AlongFirst items hedge (i + 1)) old.numbers.items r.numbers.items) (sym w.out-is)
            (not_met (λ k. (arrow_at items k).to) (λ k. get_or hedge (arrow_at items k).from 0 ≡ 1) i old.numbers.items mid.numbers.items (λ h. let f : false ≡ true = w.if-is_set.ensures.1 h in absurd (cc)) so_far.put);
      }
    ]

pub returns-clause-flags : goal.returns-clause-flags
returns-clause-flags c =
    let ends = c.loop-arrow-test.false in
    let end = c.loop-arrow.auto.arrow-index-end in
    subst (λ n. PutsBy (AlongFirst c.args.arrows.now c.args.hedge.now n) c.args.out.now.numbers.items c.loop-arrow.out.numbers.items) (omega (arith, ends, end)) c.loop-arrow.invariant.put
