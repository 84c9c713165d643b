use Rattle.std.proofs.Common.{◌≡◌, ◌<◌, inl, inr, ◌+◌, ◌∙◌, sym, get_or, subst, ap, arith, length, refl, true, false}
use Rattle.std.proofs.lemmas.List.{get_or_default}
use Rattle.tc_beh.specs.Bundles.{bundle_at, no_bundle}
use Rattle.tc_beh.specs.declared.rooms.Room.{Room}
use Rattle.tc_beh.specs.RoomsOf.{IsRoomBeside}
use Rattle.tc_beh.specs.Bundles.{Meet, PutsBy}
use Rattle.tc_beh.proofs.Bundling.{ByFirst, is_met, not_met}
use Rattle.tc_beh.proofs.bundles.put_bundles.Goals.{then-have_common, else-have_common}
use Rattle.tc_beh.proofs.bundles.put_bundles.Goals as goal

pub loop-bundle-preserved : goal.loop-bundle-preserved
loop-bundle-preserved c =
    let items = c.args.bundles.now in
    let words = c.args.words.now in
    let i = c.loop-bundle.bundle-index in
    let old = c.args.out.now in
    let mid = c.loop-bundle.out in
    let so_far = c.loop-bundle.invariant in
    let low : i < length items = c.loop-bundle-test.true in
    let within : (bundle_at items i).to < old.flags = (c.requires.low i low).1 in
    elim c.if-have_common.branch [
      | then-have_common w ↦
          let new = w.set_flag.new.self in
          let same = w.set_flag.ensures.beside in
          let beside : IsRoomBeside old new = record { flags = same.flags ∙ so_far.beside.flags; entries = same.entries ∙ so_far.beside.entries; count = same.count ∙ so_far.beside.count } in
          record {
            beside = subst (λ (r : Room). IsRoomBeside old r) (sym w.out-is) beside;
            others = λ k h. ap (λ (r : Room). get_or r.numbers.items k 0) w.out-is
                ∙ (w.set_flag.ensures.others k (λ e. elim h [ inl a ↦ absurd (omega (arith, a, e)) | inr a ↦ absurd (omega (arith, a, e, within)) ]) ∙ so_far.others k h);
            put = subst (λ (r : Room). PutsBy (ByFirst items words (i + 1)) old.numbers.items r.numbers.items) (sym w.out-is)
                (is_met (λ k. (bundle_at items k).to) (λ k. Meet (bundle_at items k) words) i old.numbers.items mid.numbers.items new.numbers.items (w.if-have_common.ensures.0 refl) w.set_flag.ensures.flag w.set_flag.ensures.others so_far.put);
          }
      | else-have_common w ↦ record {
        beside = subst (λ (r : Room). IsRoomBeside old r) (sym w.out-is) so_far.beside;
        others = λ k h. ap (λ (r : Room). get_or r.numbers.items k 0) w.out-is ∙ so_far.others k h;
        put = subst (λ (r : Room). PutsBy (ByFirst items words (i + 1)) old.numbers.items r.numbers.items) (sym w.out-is)
            (not_met (λ k. (bundle_at items k).to) (λ k. Meet (bundle_at items k) words) i old.numbers.items mid.numbers.items (λ h. let f : false ≡ true = w.if-have_common.ensures.1 h in absurd (cc)) so_far.put);
      }
    ]

pub returns-clause-flags : goal.returns-clause-flags
returns-clause-flags c =
    let ends = c.loop-bundle-test.false in
    let end = c.loop-bundle.auto.bundle-index-end in
    subst (λ n. PutsBy (ByFirst c.args.bundles.now c.args.words.now n) c.args.out.now.numbers.items c.loop-bundle.out.numbers.items) (omega (arith, ends, end)) c.loop-bundle.invariant.put
